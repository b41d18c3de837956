-- The alarms of the upper part: each at its rank, and how a change of one is seen from above.
use Rattle.std.proofs.Common.{◌≡◌, ◌⊎◌, ℕ, zero, suc, ◌<◌, Bool, true, false, cond, List, [], ◌∷◌, ◌++◌, map, set, get_or, length, refl, sym, ◌∙◌, ap, ap₂, inl, inr, arith, get_or-set_same, get_or-set_other}
use Rattle.std.specs.Prelude.{Option, Some, None, slice_get}
use Rattle.std.specs.List.{filter}
use Rattle.osek_base.specs.Lists.{below}
use Rattle.osek_base.specs.System.{System}
use Rattle.osek_base.specs.State.{Expiry, State}
use Rattle.osek_base.specs.Alarm.{expiry, with_alarm}
use Rattle.osek_base.specs.Upper.{is_upper_alarm}
use Rattle.osek_base.specs.Agree.{rank, kept, upper_alarms}
use Rattle.partition_check.proofs.UpperState.{up}
use Rattle.partition_check.proofs.Shared.{IsCounterpart}
use Rattle.partition_check.proofs.ListsUp.{true≢false, map_same, all_pass, all_weaken}
use Rattle.std.proofs.lemmas.List.Elements.{filter-append}

-- ---- numbers that pass, each at its rank

get_tail : {X : Type 0} (xs : List X) (x y : X) (i : ℕ) → slice_get (xs ++ x ∷ []) i ≡ Some y
    → (slice_get xs i ≡ Some y) ⊎ ((i ≡ length xs) × (x ≡ y))
get_tail [] x y zero e = inr (refl, grind arith)
get_tail [] x y (suc i) e = absurd (grind arith)
get_tail (z ∷ xs) x y zero e = inl e
get_tail (z ∷ xs) x y (suc i) e =
    elim (get_tail xs x y i e) [
      | inl h ↦ inl h
      | inr h ↦ inr (ap suc h.0, h.1)
    ]

-- a number stands at its rank
pub at_rank : (test : ℕ → Bool) (n i a : ℕ) → slice_get (kept test n) i ≡ Some a → i ≡ rank test a
at_rank test zero i a e = absurd (grind arith)
at_rank test (suc n) i a e = go (test n) (rw (filter-append test (below n) (n ∷ [])) at e) (λ h. at_rank test n i a h)
  where
    go : (b : Bool) → slice_get (filter test (below n) ++ cond b (n ∷ []) []) i ≡ Some a
        → (slice_get (filter test (below n)) i ≡ Some a → i ≡ rank test a) → i ≡ rank test a
    go true h rest =
        elim (get_tail (filter test (below n)) n a i h) [
          | inl k ↦ rest k
          | inr k ↦ k.0 ∙ ap (rank test) k.1
        ]
    go false h rest = rest (ap (λ l. slice_get l i) (sym (nothing (filter test (below n)))) ∙ h)
      where
        nothing : (xs : List ℕ) → xs ++ [] ≡ xs
        nothing [] = refl
        nothing (x ∷ xs) = ap (λ l. x ∷ l) (nothing xs)

-- ---- what is read at a place

pub read_at : {X Y : Type 0} (f : X → Y) (xs : List X) (k : ℕ) (x : X) (d : Y) → slice_get xs k ≡ Some x → get_or (map f xs) k d ≡ f x
read_at f [] k x d e = absurd (grind arith)
read_at f (y ∷ xs) zero x d e = let same : y ≡ x = grind arith in ap f same
read_at f (y ∷ xs) (suc k) x d e = read_at f xs k x d e

-- a function that changes at the element of place k alone
pub change_at : {X Y : Type 0} (f g : X → Y) (xs : List X) (k : ℕ) (x : X) (v : Y) → slice_get xs k ≡ Some x → g x ≡ v
    → ((i : ℕ) (y : X) → slice_get xs i ≡ Some y → (i ≡ k → ⊥) → g y ≡ f y) → map g xs ≡ set (map f xs) k v
change_at f g [] k x v e here others = absurd (grind arith)
change_at f g (y ∷ xs) zero x v e here others =
    let same : y ≡ x = grind arith in
    ap₂ (λ w ws. w ∷ ws) (ap g same ∙ here) (rest xs (λ i z h. others (suc i) z h (λ q. omega (arith, q))))
  where
    rest : (zs : List _) → ((i : ℕ) (z : _) → slice_get zs i ≡ Some z → g z ≡ f z) → map g zs ≡ map f zs
    rest [] each = refl
    rest (z ∷ zs) each = ap₂ (λ w ws. w ∷ ws) (each 0 z refl) (rest zs (λ i u h. each (suc i) u h))
change_at f g (y ∷ xs) (suc k) x v e here others =
    ap₂ (λ w ws. w ∷ ws) (others 0 y refl (λ q. omega (arith, q)))
    (change_at f g xs k x v e here (λ i z h far. others (suc i) z h (λ q. far (omega (arith, q)))))

-- ---- alarms

module _ (S : System) (p : ℕ) (both : IsCounterpart S p) where
  pub expiry_up : (s : State) (a : ℕ) → a < length S.alarms → is_upper_alarm S p a ≡ true
      → expiry (up S p s) (rank (is_upper_alarm S p) a) ≡ expiry s a
  expiry_up s a inside high = read_at (expiry s) (upper_alarms S p) (rank (is_upper_alarm S p) a) a None (both.alarm_at a inside high)

  pub with_alarm_up : (s : State) (a : ℕ) (e : Option Expiry) → a < length S.alarms → length s.alarms ≡ length S.alarms
      → is_upper_alarm S p a ≡ true → up S p (with_alarm s a e) ≡ with_alarm (up S p s) (rank (is_upper_alarm S p) a) e
  with_alarm_up s a e inside long high =
      let same : map (expiry (with_alarm s a e)) (upper_alarms S p) ≡ set (map (expiry s) (upper_alarms S p)) (rank (is_upper_alarm S p) a) e =
      change_at (expiry s) (expiry (with_alarm s a e)) (upper_alarms S p) (rank (is_upper_alarm S p) a) a e
      (both.alarm_at a inside high)
      (get_or-set_same s.alarms a e None (omega (arith, inside, long)))
      (λ i b h far. get_or-set_other s.alarms a b e None
      (λ q. far (at_rank (is_upper_alarm S p) (length S.alarms) i b h ∙ ap (rank (is_upper_alarm S p)) q))) in
      λ i. record (up S p s) { alarms = same i }

pub alarms_unseen : (S : System) (p : ℕ) (s : State) (a : ℕ) (e : Option Expiry) → is_upper_alarm S p a ≡ false
    → map (expiry (with_alarm s a e)) (upper_alarms S p) ≡ map (expiry s) (upper_alarms S p)
alarms_unseen S p s a e low =
    map_same (expiry (with_alarm s a e)) (expiry s) (upper_alarms S p)
    (all_weaken (λ b. is_upper_alarm S p b ≡ true) (λ b. expiry (with_alarm s a e) b ≡ expiry s b) (upper_alarms S p)
    (λ b high. get_or-set_other s.alarms a b e None (λ q. true≢false (sym high ∙ ap (is_upper_alarm S p) q ∙ low)))
    (all_pass (is_upper_alarm S p) (below (length S.alarms))))

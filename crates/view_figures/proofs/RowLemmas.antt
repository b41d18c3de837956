-- Ticks in a row in which the same is seen: from one tick more to all of them, for one thing and
-- for each.
use Rattle.std.proofs.Common.{ℕ, zero, suc, ◌≡◌, ◌+◌, ◌<◌, ◌≤◌, List, [], ◌∷◌, length, map, get_or, set, inl, inr, drop, sym, ◌∙◌, ap, ap₂, subst, arith}
use Rattle.std.proofs.Math.Nat.{add-zero}
use Rattle.std.specs.List.{refill}
use Rattle.std.proofs.lemmas.Bool.{cases_eq}
use Rattle.std.proofs.lemmas.List.{append-nil, drop_all, take_all, get_or-set_same, get_or-set_other, get_or_default, length-set}
use Rattle.seen_ticks.specs.declared.observation.Observation.{Observation}
use Rattle.seen_ticks.specs.Seen.{numbered}
use Rattle.view_figures.specs.FigureSums.{AreOf, alike}
use Rattle.view_figures.specs.Counting.{AreCounted, Counts, CountsOne}

-- where figures are known after the first tick, and after one more where they were before it, they
-- are after all
pub row_all : {X : Type 0} (sum : List Observation → X) (o : Observation) (first : ℕ)
    (before : List Observation) (after : ℕ → X) (n more : ℕ) → n ≡ suc more
    → after 0 ≡ sum (numbered first o ∷ before)
    → ((m : ℕ) → m < more → CountsOne sum (numbered (first + suc m) o) (after m) (after (suc m)))
    → after more ≡ sum (alike o first n before)
row_all sum o first before after n more all one next =
    subst (λ m. after more ≡ sum (alike o first m before)) (sym all) (go more (omega arith))
  where
    go : (m : ℕ) → m ≤ more → after m ≡ sum (alike o first (suc m) before)
    go zero low = one ∙ ap (λ t. sum (numbered t o ∷ before)) (sym (add-zero first))
    go (suc m) low =
        next m (omega (arith, low)) (alike o first (suc m) before) (go m (omega (arith, low)))

-- what the first tick leaves stays
pub row_settles : {X : Type 0} (sum : List Observation → X) (o : Observation) (first n : ℕ)
    (before : List Observation) (x : X) → 0 < n → x ≡ sum (numbered first o ∷ before)
    → ((t : ℕ) → CountsOne sum (numbered t o) x x)
    → x ≡ sum (alike o first n before)
row_settles sum o first zero before x some one next = absurd (omega (arith, some))
row_settles sum o first (suc zero) before x some one next =
    one ∙ ap (λ t. sum (numbered t o ∷ before)) (sym (add-zero first))
row_settles sum o first (suc (suc n)) before x some one next =
    next (first + suc n) (alike o first (suc n) before)
    (row_settles sum o first (suc n) before x (omega arith) one next)

-- figures stay in each tick
pub row_stays : {X : Type 0} (sum : List Observation → X) (o : Observation) (first : ℕ) (x : X)
    → ((t : ℕ) → CountsOne sum (numbered t o) x x) → (n : ℕ) → Counts sum o first n x x
row_stays sum o first x next zero before e = e
row_stays sum o first x next (suc n) before e =
    next (first + n) (alike o first n before) (row_stays sum o first x next n before e)

alike_more : (o : Observation) (first m n : ℕ) (before : List Observation)
    → alike o (first + m) n (alike o first m before) ≡ alike o first (m + n) before
alike_more o first m zero before = ap (λ i. alike o first i before) (sym (add-zero m))
alike_more o first m (suc n) before =
    let tick : first + m + n ≡ first + (m + n) = omega arith in
    let more : m + suc n ≡ suc (m + n) = omega arith in
    ap₂ (λ t os. numbered t o ∷ os) tick (alike_more o first m n before)
    ∙ ap (λ i. alike o first i before) (sym more)

-- some ticks, and then more
pub counts_more : {X : Type 0} (sum : List Observation → X) (o : Observation) (first m n : ℕ)
    (old mid new : X) → Counts sum o first m old mid → Counts sum o (first + m) n mid new
    → Counts sum o first (m + n) old new
counts_more sum o first m n old mid new one two before e =
    two (alike o first m before) (one before e) ∙ ap sum (alike_more o first m n before)

-- the things below m have seen the ticks, the others haven't
pub record AreCountedBelow {X : Type 0} (m : ℕ) (sums : ℕ → List Observation → X)
    (o : Observation) (first n : ℕ) (old new : List X) : Type 0 where
  pub count : length new ≡ length old
  pub each : (k : ℕ) → k < m
      → Counts (sums k) o first n (get_or old k (sums k [])) (get_or new k (sums k []))
  pub others : (k : ℕ) → m ≤ k → get_or new k (sums k []) ≡ get_or old k (sums k [])

-- one thing more has seen the ticks
pub below_more : {X : Type 0} (m : ℕ) (sums : ℕ → List Observation → X) (o : Observation)
    (first n : ℕ) (old xs : List X) (d x : X) → AreCountedBelow m sums o first n old xs
    → m < length xs → Counts (sums m) o first n (get_or xs m d) x
    → AreCountedBelow (m + 1) sums o first n old (set xs m x)
below_more m sums o first n old xs d x below inside step = record {
  count = length-set xs m x ∙ below.count;
  each = λ k low. elim (cases_eq k m) [
    | inl is ↦
        subst (λ i. Counts (sums i) o first n (get_or old i (sums i []))
        (get_or (set xs m x) i (sums i [])))
        (sym is) this
    | inr other ↦ λ before e.
        get_or-set_other xs m k x (sums k []) other
        ∙ below.each k (omega (arith, low, other)) before e
  ];
  others = λ k high.
      get_or-set_other xs m k x (sums k []) (λ is. absurd (omega (arith, is, high)))
      ∙ below.others k (omega (arith, high));
}
  where
    this : Counts (sums m) o first n (get_or old m (sums m [])) (get_or (set xs m x) m (sums m []))
    this before e =
        get_or-set_same xs m x (sums m []) inside
        ∙ step before (get_or_default xs m d (sums m []) inside ∙ below.others m (omega arith) ∙ e)

-- all of them have
pub below_all : {X : Type 0} (m : ℕ) (sums : ℕ → List Observation → X) (o : Observation)
    (first n : ℕ) (old new : List X) → AreCountedBelow m sums o first n old new
    → length new ≤ m → AreCounted sums o first n old new
below_all m sums o first n old new below all = record {
  count = below.count;
  each = λ k low. below.each k (omega (arith, low, all, below.count));
}

-- what stands in a list after its elements were changed through a slice
refilled : {X : Type 0} (xs ws : List X) → length ws ≡ length xs → refill (length xs) xs ws ≡ ws
refilled xs ws e =
    let none : drop (length ws) xs ≡ [] = drop_all (length ws) xs (omega arith) in
    rw (none, append-nil) (take_all (length xs) ws (omega arith))

-- where each thing has seen the ticks, the figures are those over them too
pub list_row : {T X : Type 0} (count : ℕ) (kind : List T → X) (f : Observation → ℕ → T)
    (o : Observation) (first n : ℕ) (before : List Observation) (old slice new : List X)
    → slice ≡ old → AreOf count kind (λ k. map (λ p. f p k) before) old
    → AreCounted (λ k seen. kind (map (λ p. f p k) seen)) o first n slice new
    → AreOf count kind (λ k. map (λ p. f p k) (alike o first n before))
    (refill (length old) old new)
list_row {X = X} count kind f o first n before old slice new e are row =
    let sums : ℕ → List Observation → X = λ k seen. kind (map (λ p. f p k) seen) in
    let row' = subst (λ xs. AreCounted sums o first n xs new) e row in
    subst (AreOf count kind (λ k. map (λ p. f p k) (alike o first n before)))
    (sym (refilled old new row'.count)) (record {
      count = row'.count ∙ are.count;
      each = λ k below.
          row'.each k (subst (λ m. k < m) (sym are.count) below) before (are.each k below);
    })

-- Labels of which each list is known.
use Rattle.std.proofs.Common.{ℕ, zero, suc, ◌≡◌, ◌&&◌, Bool, true, false, cond, if◌then◌else◌, max, min, is_some, nat_lt, List, [], length, get_or, Option, Some, None, Vec, Global, refl, sym, ◌∙◌, ap, subst, arith}
use Rattle.std.proofs.lemmas.Bool.{ltb-false}
use Rattle.std.proofs.lemmas.List.{with_items_is}
use Rattle.std.specs.Prelude.{◌==◌}
use Rattle.std.specs.Vec.{with_items}
use Rattle.view_figures.specs.ResourceSums.{is_same}
use Rattle.law_figures.specs.Ages.{AreOlder}
use Rattle.law_figures.specs.Holding.{Hold, held_by, IsLonger}
use Rattle.law_figures.specs.Merging.{merged_age, merged_ages, merged_hold}
use Rattle.law_figures.specs.Pending.{IsOlder}
use Rattle.law_figures.proofs.Merging.{labels_merge}
use Rattle.search_labels.specs.Labels.{Labels, ages_of, hold_of, no_hold, pending_of}
use Rattle.search_labels.specs.Parts.{hold_at}
use Rattle.search_labels.specs.Joining.{AreJoinable, AreOfAsMany, IsJoined, has_held, joined_hold}

pub labels_same : (l m : Labels) → l.debts ≡ m.debts → l.ages ≡ m.ages → l.pending ≡ m.pending
    → l.holds ≡ m.holds → l.blocked ≡ m.blocked → l ≡ m
labels_same l m w a p h b =
    ap (λ v. record l { debts = v }) w ∙ ap (λ v. record l { debts = m.debts; ages = v }) a
    ∙ ap (λ v. record m { pending = v; holds = l.holds; blocked = l.blocked }) p
    ∙ ap (λ v. record m { holds = v; blocked = l.blocked }) h
    ∙ ap (λ v. record m { blocked = v }) b

-- ---- two lists joined

pub record IsListJoined {X : Type 0} (f : X → X → X) (d : X) (l m new : List X) : Type 0 where
  pub count : length new ≡ length l
  pub each : (i : ℕ) → get_or new i d ≡ f (get_or l i d) (get_or m i d)

module _ {X : Type 0} (f : X → X → X) (d : X) (v : Vec X Global) (old others new l m : List X) where
  pub list_joined : old ≡ l → others ≡ m → length old ≡ v.len → length new ≡ length old
      → ((i : ℕ) → get_or new i d ≡ f (get_or old i d) (get_or others i d))
      → IsListJoined f d l m (with_items v new).items
  list_joined is_old is_other long count each =
      subst (IsListJoined f d l m) (sym (with_items_is v new (count ∙ long)))
      (subst (λ x. IsListJoined f d x m new) is_old
      (subst (λ x. IsListJoined f d old x new) is_other (record { count = count; each = each })))

pub lists_joined : (old others new l m : List (List ℕ)) → old ≡ l → others ≡ m
    → length new ≡ length old
    → ((k : ℕ) → get_or new k [] ≡ merged_ages (get_or old k []) (get_or others k []))
    → IsListJoined merged_ages [] l m new
lists_joined old others new l m is_old is_other count each =
    subst (λ x. IsListJoined merged_ages [] x m new) is_old
    (subst (λ x. IsListJoined merged_ages [] old x new) is_other
    (record { count = count; each = each }))

-- ---- holds joined

same_zero : (b : Bool) → cond b zero zero ≡ zero
same_zero true = refl
same_zero false = refl

not_held : (x : Hold) → has_held x ≡ false → (t : ℕ) → held_by t x ≡ 0
not_held x e t = go x.holder x.held e
  where
    go : (h : Option ℕ) (n : ℕ) → (is_some h && nat_lt 0 n) ≡ false
        → cond (is_same (Some t) h) n 0 ≡ 0
    go None n none = refl
    go (Some u) zero none = same_zero (t == u)
    go (Some u) (suc n) none = absurd (omega (arith, ltb-false 0 (suc n) none))

module _ (x y : Hold) (joinable : AreJoinable x y) where
  hold_one : IsLonger (joined_hold x y) x
  hold_one = go (has_held y) (has_held x) refl refl
    where
      go : (b c : Bool) → has_held y ≡ b → has_held x ≡ c
          → IsLonger (if b then (if c then merged_hold x y else y) else x) x
      go false c held_y held_x = λ t. omega arith
      go true false held_y held_x = λ t. omega (arith, not_held x held_x t)
      go true true held_y held_x = (labels_merge.holds x y (joinable held_x held_y)).one

  hold_other : IsLonger (joined_hold x y) y
  hold_other = go (has_held y) (has_held x) refl refl
    where
      go : (b c : Bool) → has_held y ≡ b → has_held x ≡ c
          → IsLonger (if b then (if c then merged_hold x y else y) else x) y
      go false c held_y held_x = λ t. omega (arith, not_held y held_y t)
      go true false held_y held_x = λ t. omega arith
      go true true held_y held_x = (labels_merge.holds x y (joinable held_x held_y)).other

  hold_least : (z : Hold) → IsLonger z x → IsLonger z y → IsLonger z (joined_hold x y)
  hold_least z h k = go (has_held y) (has_held x) refl refl
    where
      go : (b c : Bool) → has_held y ≡ b → has_held x ≡ c
          → IsLonger z (if b then (if c then merged_hold x y else y) else x)
      go false c held_y held_x = h
      go true false held_y held_x = k
      go true true held_y held_x =
          (labels_merge.holds x y (joinable held_x held_y)).least z h k

pub joinable_at : (xs ys holds others : List Hold) → xs ≡ holds → ys ≡ others
    → ((r : ℕ) → AreJoinable (hold_at xs r) (hold_at ys r))
    → (r : ℕ) → AreJoinable (hold_at holds r) (hold_at others r)
joinable_at xs ys holds others e k joinable r =
    subst (λ v. AreJoinable (hold_at v r) (hold_at others r)) e
    (subst (λ v. AreJoinable (hold_at xs r) (hold_at v r)) k (joinable r))

-- ---- labels joined

pub labels_joined : (l m joined : Labels) → AreOfAsMany l m
    → ((r : ℕ) → AreJoinable (hold_of l r) (hold_of m r))
    → IsListJoined min 0 l.debts m.debts joined.debts
    → IsListJoined merged_ages [] l.ages m.ages joined.ages
    → IsListJoined merged_age None l.pending m.pending joined.pending
    → IsListJoined joined_hold no_hold l.holds m.holds joined.holds
    → IsListJoined max 0 l.blocked m.blocked joined.blocked → IsJoined l m joined
labels_joined l m joined many joinable w a p held b = record {
  debts = w.each;
  ages = a.each;
  pending = p.each;
  holds = held.each;
  blocked = b.each;
  one = record {
    rules = w.count;
    tasks = a.count;
    interrupts = p.count;
    resources = held.count;
    blockable = b.count;
    sooner = λ i. omega (arith, w.each i);
    ages = λ k. subst (λ v. AreOlder v (ages_of l k)) (sym (a.each k))
        (labels_merge.ages (ages_of l k) (ages_of m k)).one;
    pending = λ i. subst (λ v. IsOlder v (pending_of l i)) (sym (p.each i))
        (labels_merge.pending (pending_of l i) (pending_of m i)).one;
    holds = λ r. subst (λ v. IsLonger v (hold_of l r)) (sym (held.each r))
        (hold_one (hold_of l r) (hold_of m r) (joinable r));
    blocked = λ k. omega (arith, b.each k);
  };
  other = record {
    rules = w.count ∙ many.rules;
    tasks = a.count ∙ many.tasks;
    interrupts = p.count ∙ many.interrupts;
    resources = held.count ∙ many.resources;
    blockable = b.count ∙ many.blockable;
    sooner = λ i. omega (arith, w.each i);
    ages = λ k. subst (λ v. AreOlder v (ages_of m k)) (sym (a.each k))
        (labels_merge.ages (ages_of l k) (ages_of m k)).other;
    pending = λ i. subst (λ v. IsOlder v (pending_of m i)) (sym (p.each i))
        (labels_merge.pending (pending_of l i) (pending_of m i)).other;
    holds = λ r. subst (λ v. IsLonger v (hold_of m r)) (sym (held.each r))
        (hold_other (hold_of l r) (hold_of m r) (joinable r));
    blocked = λ k. omega (arith, b.each k);
  };
  least = λ n h k. record {
    rules = h.rules ∙ sym w.count;
    tasks = h.tasks ∙ sym a.count;
    interrupts = h.interrupts ∙ sym p.count;
    resources = h.resources ∙ sym held.count;
    blockable = h.blockable ∙ sym b.count;
    sooner = λ i. omega (arith, w.each i, h.sooner i, k.sooner i);
    ages = λ j. subst (λ v. AreOlder (ages_of n j) v) (sym (a.each j))
        ((labels_merge.ages (ages_of l j) (ages_of m j)).least (ages_of n j) (h.ages j) (k.ages j));
    pending = λ i. subst (λ v. IsOlder (pending_of n i) v) (sym (p.each i))
        ((labels_merge.pending (pending_of l i) (pending_of m i)).least (pending_of n i)
        (h.pending i) (k.pending i));
    holds = λ r. subst (λ v. IsLonger (hold_of n r) v) (sym (held.each r))
        (hold_least (hold_of l r) (hold_of m r) (joinable r) (hold_of n r) (h.holds r) (k.holds r));
    blocked = λ j. omega (arith, b.each j, h.blocked j, k.blocked j);
  };
}

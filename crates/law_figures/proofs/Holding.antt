-- How long a resource is held, in the words of figures; and its order.
use Rattle.std.proofs.Common.{ℕ, suc, ◌≡◌, ◌≤◌, ◌+◌, Bool, true, false, cond, List, [], ◌∷◌, Option, Some, None, is_some, refl, sym, ◌∙◌, ap, arith}
use Rattle.view_figures.specs.declared.resource_figures.HolderTick.{HolderTick}
use Rattle.view_figures.specs.Counts.{capped}
use Rattle.view_figures.specs.Reaching.{worst, worse_of}
use Rattle.view_figures.specs.ResourceSums.{is_same, last_holder, hold_on, hold, hold_at, longest_hold, resource_figures}
use Rattle.law_figures.specs.Labels.{label_after, reached, all_shown, IsAtMost}
use Rattle.law_figures.specs.Holding.{Hold, held_in, hold_next, holding, held_ticks, tick_of, IsLonger, HoldsAreLabels, HoldingKeepsOrder}
use Rattle.law_figures.proofs.Greatest.{is_greatest, worst_put}

holder_is : (seen : List HolderTick) → last_holder seen ≡ (label_after holding seen).holder
holder_is [] = refl
holder_is (h ∷ before) = refl

held_on : (h : Option ℕ) (old : Hold) → hold_on h old.holder (capped old.held)
    ≡ capped (held_in h old)
held_on None old = omega arith
held_on (Some t) old = go (is_same (Some t) old.holder)
  where
    go : (b : Bool) → cond b (capped (capped old.held + 1)) 1 ≡ capped (suc (cond b old.held 0))
    go true = omega arith
    go false = omega arith

held_is : (seen : List HolderTick) → hold seen ≡ capped (label_after holding seen).held
held_is [] = omega arith
held_is (h ∷ before) =
    let old = label_after holding before in
    (λ i. hold_on h.holder (holder_is before i) (held_is before i)) ∙ held_on h.holder old

held_at : (tick : ℕ) (h : Option ℕ) (n : ℕ)
    → cond (is_some h) (Some (record { ticks = capped n; at = tick })) None
    ≡ reached tick (cond (is_some h) (Some n) None)
held_at tick None n = refl
held_at tick (Some t) n = refl

holds_are : (seen : List HolderTick) → longest_hold seen
    ≡ worst (all_shown holding tick_of held_ticks seen)
holds_are [] = refl
holds_are (h ∷ before) =
    let old = label_after holding before in
    let here : hold_at h (hold (h ∷ before)) ≡ reached h.tick (held_ticks h old) =
    ap (hold_at h) (held_is (h ∷ before)) ∙ held_at h.tick h.holder (held_in h.holder old) in
    let there = holds_are before in
    (λ i. worse_of (there i) (here i))
    ∙ sym (worst_put (reached h.tick (held_ticks h old))
    (all_shown holding tick_of held_ticks before))

longest : (seen : List HolderTick) → (resource_figures seen).longest ≡ longest_hold seen
unfolding resource_figures
longest seen = refl

pub holds_are_labels : HoldsAreLabels
holds_are_labels seen =
    is_greatest holding tick_of held_ticks seen (resource_figures seen).longest
    (longest seen ∙ holds_are seen)

-- ---- order

longer_in : (h : Option ℕ) (x y : Hold) → IsLonger x y → held_in h y ≤ held_in h x
longer_in None x y longer = omega arith
longer_in (Some t) x y longer = omega (arith, longer t)

same_kept : (b : Bool) (m n : ℕ) → m ≤ n → cond b m 0 ≤ cond b n 0
same_kept true m n low = low
same_kept false m n low = omega arith

longer_next : (h : HolderTick) (x y : Hold) → IsLonger x y
    → IsLonger (hold_next h x) (hold_next h y)
longer_next h x y longer t =
    same_kept (is_same (Some t) h.holder) (held_in h.holder y) (held_in h.holder x)
    (longer_in h.holder x y longer)

held_shown : (h : HolderTick) (x y : Hold) (m : ℕ) → IsLonger x y → IsAtMost m (held_ticks h x)
    → IsAtMost m (held_ticks h y)
held_shown h x y m longer = go (is_some h.holder)
  where
    go : (b : Bool) → IsAtMost m (cond b (Some (held_in h.holder x)) None)
        → IsAtMost m (cond b (Some (held_in h.holder y)) None)
    go true low = let less : held_in h.holder y ≤ held_in h.holder x =
        longer_in h.holder x y longer in omega (arith, low)
    go false low = tt

pub holding_keeps_order : HoldingKeepsOrder
holding_keeps_order = record {
  order = record {
    itself = λ x t. omega arith;
    joined = λ x y z h k t. omega (arith, h t, k t);
    next = longer_next;
  };
  held = held_shown;
}

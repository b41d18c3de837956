-- The order of tasks, one priority at a time; and the places below a number.
use Rattle.std.proofs.Common.{◌≡◌, ℕ, suc, ◌+◌, List, [], ◌++◌, get_or, ap, ◌∙◌, eqb, append_assoc}
use Rattle.std.specs.List.{filter}
use Rattle.osek_base.specs.Lists.{below}
use Rattle.osek_base.specs.declared.limits.TheConstants.{MAX_TASK_PRIORITY}
use Rattle.osek_base.specs.Numbering.{order_below, places_of, task_order}

-- the places below n at which a priority stands
abbrev pub places_below : List ℕ → ℕ → ℕ → List ℕ
places_below priorities p n = filter (λ i. eqb (get_or priorities i 0) p) (below n)

pub order_begun : (priorities items : List ℕ) → items ≡ [] → items ++ order_below priorities (MAX_TASK_PRIORITY + 1) ≡ task_order priorities
unfolding task_order
order_begun priorities items e = ap (λ (xs : List ℕ). xs ++ order_below priorities (MAX_TASK_PRIORITY + 1)) e

pub order_more : (priorities before items : List ℕ) (n p : ℕ) → n ≡ suc p → items ≡ before ++ places_of priorities p
    → before ++ order_below priorities n ≡ task_order priorities → items ++ order_below priorities p ≡ task_order priorities
order_more priorities before items n p n_is e so_far =
    let last : before ++ order_below priorities (suc p) ≡ task_order priorities = rw n_is at so_far in
    ap (λ (xs : List ℕ). xs ++ order_below priorities p) e ∙ append_assoc before (places_of priorities p) (order_below priorities p) ∙ last

-- A task is blocked only where it is READY.
use Rattle.std.proofs.Common.{ℕ, ◌≡◌, ◌+◌, ◌&&◌, Bool, true, false, cond, min, nat_lt, List, length, Option, None, Some, refl, ◌∙◌, ap}
use Rattle.std.specs.Prelude.{slice_index_or}
use Rattle.osek_base.specs.declared.ids.Owner.{Owner}
use Rattle.osek_base.specs.declared.ids.Owner.TheVariants.{Routine, Task}
use Rattle.view_figures.specs.FigureSums.{lower_executes}
use Rattle.view_figures.specs.StateSums.{leaves}
use Rattle.law_figures.specs.Blocking.{blocked_in, stands_ready}
use Rattle.seen_ticks.specs.Seen.{Seen}
use Rattle.search_labels.specs.Parts.{blocked_after, blocked_at, blocked_behind}
use Rattle.search_labels.specs.Ticks.{blocked_tick, executing_level, is_above, ready_tick, task_in, task_tick}

once : (ready lower : Bool) → (ready && (ready && lower)) ≡ (ready && lower)
once true lower = refl
once false lower = refl

module _ (lower : ℕ → Bool) (seen : Seen) (k n : ℕ) where
  -- so that what is asked of a task that is READY alone is enough
  pub ready_in : blocked_in (ready_tick lower seen k) n ≡ blocked_in (blocked_tick lower seen k) n
  ready_in = ap (λ b. n + cond b 1 0) (once (stands_ready (task_in seen k).state) (lower k))

-- the level of the task that executes tells below which tasks it is
pub is_lower : (levels : List ℕ) (executor : Option Owner) (k : ℕ)
    → is_above (executing_level levels executor) (slice_index_or levels k 0)
    ≡ lower_executes levels executor k
is_lower levels None k = refl
is_lower levels (Some (Task t)) k =
    known (nat_lt t (length levels)) (slice_index_or levels t 0) (slice_index_or levels k 0)
  where
    known : (b : Bool) (m n : ℕ) → is_above (cond b (Some m) None) n ≡ (b && nat_lt m n)
    known true m n = refl
    known false m n = refl
is_lower levels (Some (Routine i)) k = refl

pub behind : (levels : List ℕ) (executor : Option Owner) (cap : ℕ) (seen : Seen)
    (blocked : List ℕ) (k n : ℕ)
    → n ≡ blocked_after cap (executing_level levels executor) (slice_index_or levels k 0)
    (task_in seen k) (blocked_at blocked k)
    → n ≡ blocked_behind (lower_executes levels executor) cap seen blocked k
behind levels executor cap seen blocked k n is =
    is ∙ ap (λ b. min cap (cond (leaves (task_tick seen k)) 0
    (blocked_at blocked k + cond (stands_ready (task_in seen k).state && b) 1 0)))
    (is_lower levels executor k)

-- Figures count the ticks in which a task is blocked as labels do; and the order of these.
use Rattle.std.proofs.Common.{ℕ, ◌≡◌, ◌≤◌, ◌&&◌, Bool, true, false, cond, Some, refl, arith}
use Rattle.osek_base.specs.declared.status.TaskState.{TaskState}
use Rattle.osek_base.specs.declared.status.TaskState.TheVariants.{Running, Waiting, Ready, Suspended}
use Rattle.view_figures.specs.declared.task_tick.TaskTick.{TaskTick}
use Rattle.view_figures.specs.declared.task_time.TaskTime.TheVariants.{Executed, Waits, HasNoJob}
use Rattle.view_figures.specs.StateSums.{is_blocked, leaves, ready_time}
use Rattle.law_figures.specs.Labels.{IsAtMost}
use Rattle.law_figures.specs.Blocking.{BlockedIsCounted, BlockingKeepsOrder, IsNoLess, blocked_in, blocked_next, stands_ready}

-- ---- what figures count

where_ready : (lower had : Bool) → is_blocked (ready_time lower had) ≡ lower
where_ready true had = refl
where_ready false true = refl
where_ready false false = refl

in_state : (state : TaskState) (lower had : Bool)
    → is_blocked (elim state [
      | Running ↦ Executed
      | Waiting ↦ Waits
      | Ready ↦ ready_time lower had
      | Suspended ↦ HasNoJob
    ])
    ≡ (stands_ready state && lower)
in_state Running lower had = refl
in_state Waiting lower had = refl
in_state Ready lower had = where_ready lower had
in_state Suspended lower had = refl

pub blocked_is_counted : BlockedIsCounted
blocked_is_counted t had = in_state t.seen.state t.lower_executes had

-- ---- order

more_next : (t : TaskTick) (n m : ℕ) → IsNoLess n m → IsNoLess (blocked_next t n) (blocked_next t m)
more_next t n m more = go (leaves t)
  where
    go : (b : Bool) → cond b 0 (blocked_in t m) ≤ cond b 0 (blocked_in t n)
    go true = omega arith
    go false = omega (arith, more)

no_less : (t : TaskTick) (n k m : ℕ) → IsNoLess n k → IsAtMost m (Some (blocked_in t n))
    → IsAtMost m (Some (blocked_in t k))
no_less t n k m more low = omega (arith, more, low)

pub blocking_keeps_order : BlockingKeepsOrder
blocking_keeps_order = record {
  order = record {
    itself = λ n. omega arith;
    joined = λ l m n first second. omega (arith, first, second);
    next = more_next;
  };
  blocked = no_less;
}

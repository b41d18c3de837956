-- OSEK/VDX OS: resource management, priority inversion. For how many ticks a task's oldest job is
-- blocked, since it is the oldest one that stands: the task is READY, and a task of lower static
-- priority executes.
use Rattle.std.specs.Prelude.{ℕ, ◌≡◌, ◌≤◌, ◌+◌, ◌&&◌, Bool, true, false, cond, Some}
use Rattle.osek_base.specs.declared.status.TaskState.{TaskState}
use Rattle.osek_base.specs.declared.status.TaskState.TheVariants.{Running, Waiting, Ready, Suspended}
use Rattle.view_figures.specs.declared.task_tick.TaskTick.{TaskTick}
use Rattle.view_figures.specs.StateSums.{is_blocked, leaves, time_of}
use Rattle.law_figures.specs.Labels.{Label, IsOrder, ShowsNoLess}

abbrev pub stands_ready : TaskState → Bool
stands_ready state =
    elim state [ Running ↦ false | Waiting ↦ false | Ready ↦ true | Suspended ↦ false ]

abbrev pub is_blocked_in : TaskTick → Bool
is_blocked_in t = stands_ready t.seen.state && t.lower_executes

-- for how many ticks the oldest job has been blocked, the present one counted
abbrev pub blocked_in : TaskTick → ℕ → ℕ
blocked_in t n = n + cond (is_blocked_in t) 1 0

-- and after it, where that job may have ended or begun to wait
abbrev pub blocked_next : TaskTick → ℕ → ℕ
blocked_next t n = cond (leaves t) 0 (blocked_in t n)

abbrev pub blocking : Label TaskTick ℕ
blocking = record { first = 0; next = blocked_next }

-- at least as many
abbrev pub IsNoLess : ℕ → ℕ → Type 0
IsNoLess n m = m ≤ n

-- ---- laws

-- figures count the same ticks as blocked
abbrev pub BlockedIsCounted : Type 0
BlockedIsCounted =
    (t : TaskTick) (has_begun : Bool) → is_blocked (time_of t has_begun) ≡ is_blocked_in t

-- more ticks stay more, and show no less
pub record BlockingKeepsOrder : Type 0 where
  pub order : IsOrder blocking IsNoLess
  pub blocked : ShowsNoLess IsNoLess (λ t n. Some (blocked_in t n))

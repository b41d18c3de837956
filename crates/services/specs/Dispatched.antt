-- OSEK/VDX OS: task management, scheduling policy. From where a task is dispatched, and where a reschedule changes nothing.
use Rattle.std.specs.Prelude.{ℕ, suc, ◌≡◌, ◌<◌, ◌≤◌, Bool, true, false, not, ◌&&◌, if◌then◌else◌, List, [], Option, Some, None, is_some, length}
use Rattle.osek_base.specs.declared.status.Status.{Status}
use Rattle.osek_base.specs.declared.instr.Service.{Service}
use Rattle.osek_base.specs.Types.{ServiceCall}
use Rattle.osek_base.specs.System.{System, priority_of}
use Rattle.osek_base.specs.Ceiling.{internal_ceiling, top_priority}
use Rattle.law_kept.specs.Kept.{Kept, Slot}
use Rattle.ready_queues.specs.QueueMoves.{first, highest}
use Rattle.law_kept.specs.Moves.{dynamic_in}
use Rattle.law_kept.specs.KeptService.{is_above}
use Rattle.services.specs.Objects.{Objects, Stands, kept_in}
use Rattle.services.specs.Quiet.{IsSettled}

-- the level is the highest that has a task, and its first one exists
pub record IsHighest (S : System) (q : ℕ → List ℕ) (l : ℕ) : Type 0 where
  pub low : l ≤ top_priority S
  pub some : 0 < length (q l)
  pub none : (k : ℕ) → l < k → q k ≡ []
  pub known : first (q l) < length S.tasks

-- whether a task's oldest job is as it is left where it enters running
abbrev pub has_entered : System → ℕ → Slot → Bool
has_entered S t a = a.begun && (if is_some (internal_ceiling S t) then a.taken else not a.taken)

-- whether the running task's job runs on, where this is the highest level that has a task
abbrev pub runs_on : System → ℕ → Slot → Option ℕ → Bool
runs_on S t a top = not (is_some a.waits_for) && (has_entered S t a && not (is_above (dynamic_in S t a) top))

abbrev pub is_dispatched_by : System → Option ℕ → Bool → (ℕ → Slot) → Option ℕ → Bool
is_dispatched_by S None gone slots top = not gone && not (is_some top)
is_dispatched_by S (Some t) gone slots top = not gone && runs_on S t (slots t) top

-- whether the running task is the one that is to run, and runs already; or no task runs, and none is to
abbrev pub is_dispatched_in : System → Kept → Bool
is_dispatched_in S o = is_dispatched_by S o.running o.gone o.slots (highest (suc (top_priority S)) o.queues)

-- whether a service is refused, so that it changes nothing
abbrev pub is_refusal : Status → Bool
is_refusal Status.Ok = false
is_refusal refusal = true

-- whether a task is ready above the static priority of the running one; whether any is, where none runs
abbrev pub is_outranked_by : System → Option ℕ → Option ℕ → Bool
is_outranked_by S None top = is_some top
is_outranked_by S (Some t) top = is_above (priority_of S t) top

abbrev pub is_runner_outranked : System → Kept → Bool
is_runner_outranked S o = is_outranked_by S o.running (highest (suc (top_priority S)) o.queues)

-- whether a service may call for a reschedule, by whether the running task is outranked behind it: one that makes or releases
-- a job, or lowers the running one, does so only then
abbrev pub may_dispatch : Bool → ServiceCall → Bool
may_dispatch outranked (Service.ActivateTask t) = outranked
may_dispatch outranked Service.TerminateTask = true
may_dispatch outranked (Service.ChainTask t) = true
may_dispatch outranked Service.Schedule = true
may_dispatch outranked (Service.ReleaseResource r) = outranked
may_dispatch outranked (Service.SetEvent t m) = outranked
may_dispatch outranked (Service.WaitEvent m) = true
may_dispatch outranked _ = false

-- objects that stand for a state, whether they are known to be dispatched, and whether to be settled besides
pub record IsCore (o : Objects) (known still : Bool) : Type 0 where
  pub stands : Stands o
  pub dispatched : known ≡ true → is_dispatched_in o.system (kept_in o) ≡ true
  pub settled : still ≡ true → IsSettled o.system (kept_in o)
  pub both : still ≡ true → known ≡ true

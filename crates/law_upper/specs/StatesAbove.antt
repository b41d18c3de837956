-- Partitions. What is seen of the upper part of a state is the same in systems that agree.
use Rattle.std.specs.Prelude.{ℕ, ◌≡◌, ◌<◌, Bool, false, ◌==◌, IsTrue, List, [], Option, Some, None, length, slice_index}
use Rattle.std.specs.Option.{option_map}
use Rattle.osek_base.specs.declared.arrivals.Arrival.{Arrival}
use Rattle.osek_base.specs.declared.ids.Owner.{Owner}
use Rattle.osek_base.specs.System.{System, alarm, counter_of}
use Rattle.osek_base.specs.State.{Job, Expiry, State, jobs_of, shared_window}
use Rattle.osek_base.specs.Priority.{dynamic_priority}
use Rattle.osek_base.specs.Alarm.{count, expiry}
use Rattle.osek_base.specs.Service.{Caller, JobCalls, RoutineCalls, task_state, remaining}
use Rattle.osek_base.specs.Tick.{executor, tick}
use Rattle.osek_base.specs.Trace.{arriving, run}
use Rattle.osek_base.specs.Upper.{is_upper_alarm}
use Rattle.osek_base.specs.Agree.{rank, is_upper_declared, upper_task, upper_part}
use Rattle.osek_base.specs.Proper.{IsProper}
use Rattle.osek_base.specs.Separable.{Separable, first_of_list}
use Rattle.law_kept.specs.Kept.{kept}
use Rattle.law_future.specs.Spans.{holder_in}
use Rattle.law_upper.specs.Above.{IsUpperTask, IsTheSameResource, IsTheSameAlarm, IsThatOfTheUpperPart}

-- ---- what is seen

-- the oldest job of a task. A kernel tells it by the same word, which stands with its code, and no
-- kernel is needed here
abbrev pub oldest_job : State → ℕ → Option Job
oldest_job s t = first_of_list (jobs_of t s.jobs)

-- the task that holds a resource, RES_SCHEDULER behind the declared ones
abbrev pub holder : System → State → ℕ → Option ℕ
holder S s r = holder_in S (kept S s) r

-- a job but for what it holds, which resources tell
abbrev pub but_held : Job → Job
but_held j = record j { held = [] }

-- how many counts an alarm has before it expires; none while it is off
abbrev pub counts_from : ℕ → Option Expiry → Option ℕ
counts_from n None = None
counts_from n (Some e) = Some (remaining n (Some e))

abbrev pub counts_left : System → State → ℕ → Option ℕ
counts_left S s a = counts_from (count S s a) (expiry s a)

-- whether an owner is the one that executes
abbrev pub is_caller : Owner → Caller → Bool
is_caller (Owner.Task t) (JobCalls j) = j.id.task == t
is_caller (Owner.Routine i) (RoutineCalls a) = a.routine == i
is_caller _ _ = false

abbrev pub executes : State → Owner → Bool
executes s who = is_caller who (executor s)

-- ---- the same in two states

-- a task is in the same state, with as many jobs; the oldest is the same, at the same instruction
-- with the same registers, waits for the same and has the same dynamic priority; pending events and
-- words are the same
pub record IsTaskSeenTheSame (S B : System) (s b : State) (t : ℕ) : Type 0 where
  pub state : task_state s t ≡ task_state b t
  pub jobs : length (jobs_of t s.jobs) ≡ length (jobs_of t b.jobs)
  pub oldest : option_map but_held (oldest_job s t) ≡ option_map but_held (oldest_job b t)
  pub priority : option_map (dynamic_priority S) (oldest_job s t)
      ≡ option_map (dynamic_priority B) (oldest_job b t)
  pub events : slice_index s.masks t ≡ slice_index b.masks t
  pub words : s.words (Owner.Task t) ≡ b.words (Owner.Task t)
  pub executes : executes s (Owner.Task t) ≡ executes b (Owner.Task t)

-- all that is seen of the upper part
pub record IsSeenTheSame (S B : System) (p : ℕ) (s b : State) : Type 0 where
  pub tasks : (t : ℕ) → IsUpperTask S p t → IsTaskSeenTheSame S B s b t
  pub active : s.active ≡ b.active
  pub pending : s.pending ≡ b.pending
  pub routine_words : (i : ℕ) → s.words (Owner.Routine i) ≡ b.words (Owner.Routine i)
  pub routine_executes : (i : ℕ) → executes s (Owner.Routine i) ≡ executes b (Owner.Routine i)
  pub disabled : s.disabled ≡ b.disabled
  pub suspended_all : s.suspended_all ≡ b.suspended_all
  pub suspended_os : s.suspended_os ≡ b.suspended_os
  pub holders : (r q : ℕ) → IsTheSameResource S B p r q
      → holder S s r ≡ holder B b q
  pub scheduler : holder S s (length S.resources) ≡ holder B b (length B.resources)
  pub shared : (r q : ℕ) → IsTheSameResource S B p r q
      → shared_window s.shared r ≡ shared_window b.shared q
  pub expiries : (a c : ℕ) → IsTheSameAlarm S B p a c → expiry s a ≡ expiry b c
  pub counts : (a c : ℕ) → IsTheSameAlarm S B p a c → counts_left S s a ≡ counts_left B b c
  -- and as at any other tick, such as the last one
  pub counts_at : (a c u : ℕ) → IsTheSameAlarm S B p a c
      → counts_left S (record s { tick = u }) a ≡ counts_left B (record b { tick = u }) c
  pub tick : s.tick ≡ b.tick
  pub over : s.over ≡ b.over

-- ---- what never changes

-- two systems declare the same upper part: of each upper task all that is declared, operands and
-- resources by their numbers among what is upper; of each upper alarm the counter and the action
pub record DeclareTheSame (S B : System) (p : ℕ) : Type 0 where
  pub tasks : (t : ℕ) → IsUpperTask S p t → upper_task S p t ≡ upper_task B p t
  pub counters : (a c : ℕ) → IsTheSameAlarm S B p a c → counter_of S a ≡ counter_of B c
  pub actions : (a c : ℕ) → IsTheSameAlarm S B p a c → (alarm S a).action ≡ (alarm B c).action

-- ---- the law

-- where the instruction of tick n is executed
abbrev pub executing_at : System → ℕ → List Arrival → ℕ → State
executing_at S mode arrivals n =
    (tick S (arriving arrivals n) (run S mode arrivals n).state).executing

-- in each mode and under the same arrivals, after every number of ticks, and where the instruction
-- of tick n is executed
pub record HaveTheSameStates (S B : System) (p : ℕ) : Type 0 where
  pub declared : DeclareTheSame S B p
  pub between : (mode : ℕ) (arrivals : List Arrival) (n : ℕ)
      → IsSeenTheSame S B p (run S mode arrivals n).state (run B mode arrivals n).state
  pub executing : (mode : ℕ) (arrivals : List Arrival) (n : ℕ)
      → IsSeenTheSame S B p (executing_at S mode arrivals n) (executing_at B mode arrivals n)

-- in the upper part by itself, upper resources and alarms have their numbers among the upper ones
pub record AreNumberedInThePart (S : System) (p : ℕ) : Type 0 where
  pub resources : (r : ℕ) → r < length S.resources → IsTrue (is_upper_declared S p r)
      → IsTheSameResource S (upper_part S p) p r (rank (is_upper_declared S p) r)
  pub alarms : (a : ℕ) → a < length S.alarms → IsTrue (is_upper_alarm S p a)
      → IsTheSameAlarm S (upper_part S p) p a (rank (is_upper_alarm S p) a)

pub record StatesAreSeenTheSame : Type 0 where
  pub states : IsThatOfTheUpperPart HaveTheSameStates
  pub numbers : (S : System) (p : ℕ) → IsProper S → Separable S p → AreNumberedInThePart S p

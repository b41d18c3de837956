-- What is seen of a tick, by what is kept of the state before it and by the routines that arrive.
use Rattle.std.specs.Prelude.{ℕ, ◌≡◌, ◌+◌, ◌-◌, Bool, false, not, ◌&&◌, ◌==◌, if◌then◌else◌, List, [], ◌∷◌, ◌++◌, map, Option, length}
use Rattle.std.specs.Option.{option_map}
use Rattle.seen_ticks.specs.declared.alarm_seen.AlarmSeen.{AlarmSeen}
use Rattle.seen_ticks.specs.declared.observation.Observation.{Observation}
use Rattle.seen_ticks.specs.declared.routine_seen.RoutineSeen.{RoutineSeen}
use Rattle.seen_ticks.specs.declared.task_seen.TaskSeen.{TaskSeen}
use Rattle.osek_base.specs.declared.arrivals.Arrival.{Arrival}
use Rattle.osek_base.specs.declared.executed.Executed.{Executed}
use Rattle.osek_base.specs.declared.ids.Owner.{Owner}
use Rattle.osek_base.specs.declared.ids.ResId.{ResId}
use Rattle.osek_base.specs.Alarm.{due_alarms}
use Rattle.osek_base.specs.Lists.{below}
use Rattle.osek_base.specs.Proper.{IsProper}
use Rattle.osek_base.specs.System.{System}
use Rattle.osek_base.specs.Trace.{arriving, run}
use Rattle.law_kept.specs.Kept.{Kept, kept}
use Rattle.law_kept.specs.KeptService.{bare, task_state_in}
use Rattle.law_kept.specs.KeptTick.{before_execution_in, tick_in}
use Rattle.law_future.specs.Spans.{is_pending_in}
use Rattle.law_kept.specs.Seen.{holder_in, routine_of}
use Rattle.seen_ticks.specs.Told.{refused_by, task_at_in}
use Rattle.seen_ticks.specs.Observed.{Ticked, IsSeen, activations_by, alarm_seen, answered, ending, executed_in, failure_of, holders_seen, is_among, is_by, is_number, is_waiting, lost_of, one_if, owner_of, refusing, routine_seen, state_seen, task_seen, tick_at, times}

-- whether a tick is the first; what is kept before it, where its instruction is executed, and after
-- it; what it executed; the alarms that are due, and those of them whose action is refused; the
-- routines of the interrupts that arrive
pub record KeptTicked : Type 0 where
  pub first : Bool
  pub before : Kept
  pub at : Kept
  pub after : Kept
  pub executed : Option Executed
  pub due : List ℕ
  pub refused : List ℕ
  pub arrived : List ℕ

abbrev pub ticked_in : System → Bool → List ℕ → Kept → KeptTicked
ticked_in S first arrived o =
    record {
      first = first;
      before = o;
      at = (before_execution_in S arrived o).state;
      after = (tick_in S arrived o).after;
      executed = executed_in (tick_in S arrived o).events;
      due = due_alarms S (bare o);
      refused = refused_by S o;
      arrived = arrived;
    }

-- ---- what it shows

abbrev pub jobs_before_in : Bool → Kept → ℕ → ℕ
jobs_before_in first o t = if first then 0 else (o.slots t).count

abbrev pub task_seen_in : System → KeptTicked → ℕ → TaskSeen
task_seen_in S k t =
    record {
      state = state_seen (is_by (Owner.Task t) k.executed) (task_at_in S k.at t).state;
      priority = (task_at_in S k.at t).priority;
      jobs = (task_at_in S k.at t).jobs;
      made =
          (k.after.slots t).count + one_if (is_number t (ending S k.executed))
          - jobs_before_in k.first k.before t;
      refused = one_if (is_number t (refusing S k.executed)) + activations_by S t k.refused;
      ended = is_number t (ending S k.executed);
      waits = is_by (Owner.Task t) k.executed && is_waiting (task_state_in k.after t);
    }

abbrev pub routine_seen_in : KeptTicked → ℕ → RoutineSeen
routine_seen_in k i =
    record {
      executes = is_by (Owner.Routine i) k.executed;
      is_pending = is_pending_in k.at i;
      is_started =
          is_by (Owner.Routine i) k.executed
          && not (is_number i (option_map routine_of k.before.active));
      arrived = times i k.arrived;
      lost = lost_of (is_pending_in k.before i) (times i k.arrived);
    }

abbrev pub scheduler_seen_in : System → Kept → List (Option ℕ)
scheduler_seen_in S o = if S.use_res_scheduler then holder_in S o ResId.Scheduler ∷ [] else []

abbrev pub holders_seen_in : System → Kept → List (Option ℕ)
holders_seen_in S o =
    map (λ r. holder_in S o (ResId.Declared r)) (below (length S.resources))
    ++ scheduler_seen_in S o

abbrev pub alarm_seen_in : KeptTicked → ℕ → AlarmSeen
alarm_seen_in k a =
    record { has_expired = is_among k.due a; is_refused = is_among k.refused a }

pub record IsShown (S : System) (k : KeptTicked) (o : Observation) : Type 0 where
  pub executor : o.executor ≡ option_map owner_of k.executed
  pub answered : o.answered ≡ answered k.executed
  pub failure : o.failure ≡ failure_of k.executed
  pub tasks : o.tasks.items ≡ map (task_seen_in S k) (below (length S.tasks))
  pub routines : o.routines.items ≡ map (routine_seen_in k) (below (length S.routines))
  pub holders : o.holders.items ≡ holders_seen_in S k.at
  pub alarms : o.alarms.items ≡ map (alarm_seen_in k) (below (length S.alarms))

-- ---- laws

-- the states of a tick and what is kept of them show the same
pub record ShowTheSame (S : System) (k : Ticked) (x : KeptTicked) : Type 0 where
  pub executed : k.executed ≡ x.executed
  pub tasks : (t : ℕ) → task_seen S k t ≡ task_seen_in S x t
  pub routines : (i : ℕ) → routine_seen k i ≡ routine_seen_in x i
  pub holders : holders_seen S k.at ≡ holders_seen_in S x.at
  pub alarms : (a : ℕ) → alarm_seen k a ≡ alarm_seen_in x a

-- tick n of a run, by what is kept of the state before it and by the routines that arrive in it
abbrev pub kept_tick_at : System → ℕ → List Arrival → ℕ → KeptTicked
kept_tick_at S mode arrivals n =
    ticked_in S (n == 0) (arriving arrivals n) (kept S (run S mode arrivals n).state)

abbrev pub RunsShow : Type 0
RunsShow =
    (S : System) (mode : ℕ) (arrivals : List Arrival) (n : ℕ) → IsProper S
    → (run S mode arrivals n).state.over ≡ false
    → ShowTheSame S (tick_at S mode arrivals n) (kept_tick_at S mode arrivals n)

-- so an observation of a tick is of what is kept and of the arrivals alone
abbrev pub SeenIsShown : Type 0
SeenIsShown =
    (S : System) (mode : ℕ) (arrivals : List Arrival) (n : ℕ) (o : Observation) → IsProper S
    → (run S mode arrivals n).state.over ≡ false → IsSeen S (tick_at S mode arrivals n) o
    → IsShown S (kept_tick_at S mode arrivals n) o

-- Figures of a run within bounds, by what each tick shows of what is kept of the state before it.
use Rattle.std.specs.Prelude.{ℕ, zero, suc, ◌≡◌, ◌<◌, ◌≤◌, ◌^◌, Bool, false, ◌&&◌, List, [], ◌∷◌, Option, None, length, slice_index_or}
use Rattle.std.specs.Option.{option_map}
use Rattle.osek_base.specs.declared.arrivals.Arrival.{Arrival}
use Rattle.osek_base.specs.declared.ids.Owner.{Owner}
use Rattle.osek_base.specs.declared.status.Status.{Status}
use Rattle.osek_base.specs.Proper.{IsProper}
use Rattle.osek_base.specs.System.{System}
use Rattle.osek_base.specs.Trace.{run}
use Rattle.seen_ticks.specs.declared.observation.Observation.{Observation}
use Rattle.seen_ticks.specs.Observed.{IsSeen, answered, owner_of, tick_at}
use Rattle.law_seen.specs.Shown.{alarm_seen_in, holders_seen_in, kept_tick_at, routine_seen_in, task_seen_in}
use Rattle.view_figures.specs.declared.task_tick.TaskTick.{TaskTick}
use Rattle.view_figures.specs.declared.routine_figures.RoutineTick.{RoutineTick}
use Rattle.view_figures.specs.declared.resource_figures.HolderTick.{HolderTick}
use Rattle.view_figures.specs.declared.alarm_figures.AlarmTick.{AlarmTick}
use Rattle.view_figures.specs.AlarmSums.{alarm_figures}
use Rattle.view_figures.specs.FigureSums.{AreFigures, RunFigures, held_count, is_error, is_routine, is_task, levels_of, lower_executes, task_figures}
use Rattle.view_figures.specs.ResourceSums.{resource_figures}
use Rattle.view_figures.specs.RoutineSums.{routine_figures}
use Rattle.law_figures.specs.Labels.{Label, IsAtMost, IsWithin}
use Rattle.law_figures.specs.Ages.{ages, leaving_age, oldest_age}
use Rattle.law_figures.specs.Pending.{pending, start_latency}
use Rattle.law_figures.specs.Counts.{one_if}
use Rattle.law_figures.specs.Times.{response_time, routine_time, waited}
use Rattle.law_figures.specs.Holding.{holding, held_ticks}

-- an observation is of tick n of a run that isn't over before it
pub record IsTickOf (S : System) (mode : ℕ) (arrivals : List Arrival) (n : ℕ)
    (o : Observation) : Type 0 where
  pub number : o.tick ≡ n
  pub going : (run S mode arrivals n).state.over ≡ false
  pub seen : IsSeen S (tick_at S mode arrivals n) o

-- observations are of the first n ticks of a run, newest first
abbrev pub AreTicksOf : System → ℕ → List Arrival → ℕ → List Observation → Type 0
AreTicksOf S mode arrivals zero [] = Unit {0}
AreTicksOf S mode arrivals (suc n) (o ∷ before) =
    IsTickOf S mode arrivals n o × AreTicksOf S mode arrivals n before
AreTicksOf S mode arrivals zero (o ∷ before) = ⊥
AreTicksOf S mode arrivals (suc n) [] = ⊥

-- ---- what each tick shows of a thing, as far as labels go by it

-- who executes its instruction
abbrev pub executors : System → ℕ → List Arrival → ℕ → Option Owner
executors S mode arrivals i = option_map owner_of (kept_tick_at S mode arrivals i).executed

abbrev pub task_ticks : System → ℕ → List Arrival → ℕ → ℕ → TaskTick
task_ticks S mode arrivals k i =
    record {
      tick = i;
      seen = task_seen_in S (kept_tick_at S mode arrivals i) k;
      lower_executes = lower_executes (levels_of S) (executors S mode arrivals i) k;
      has_failed = false;
      blockers = None;
    }

abbrev pub routine_ticks : System → ℕ → List Arrival → ℕ → ℕ → RoutineTick
routine_ticks S mode arrivals k i =
    record {
      tick = i;
      seen = routine_seen_in (kept_tick_at S mode arrivals i) k;
      has_failed = false;
    }

abbrev pub holder_ticks : System → ℕ → List Arrival → ℕ → ℕ → HolderTick
holder_ticks S mode arrivals k i =
    record {
      tick = i;
      holder = slice_index_or (holders_seen_in S (kept_tick_at S mode arrivals i).at) k None;
    }

abbrev pub alarm_ticks : System → ℕ → List Arrival → ℕ → ℕ → AlarmTick
alarm_ticks S mode arrivals k i =
    record { tick = i; seen = alarm_seen_in (kept_tick_at S mode arrivals i) k }

-- what that is answered
abbrev pub answers : System → ℕ → List Arrival → ℕ → Option Status
answers S mode arrivals i = answered (kept_tick_at S mode arrivals i).executed

-- whether a service of a task or of a routine is answered other than E_OK in each tick
abbrev pub task_errors : System → ℕ → List Arrival → ℕ → ℕ → Bool
task_errors S mode arrivals k i =
    is_task (executors S mode arrivals i) k && is_error (answers S mode arrivals i)

abbrev pub routine_errors : System → ℕ → List Arrival → ℕ → ℕ → Bool
routine_errors S mode arrivals k i =
    is_routine (executors S mode arrivals i) k && is_error (answers S mode arrivals i)

-- the label before tick n, and that up to there none shows more
abbrev pub label_before : {T L : Type 0} → Label T L → (ℕ → T) → ℕ → L
label_before label ticks zero = label.first
label_before label ticks (suc n) = label.next (ticks n) (label_before label ticks n)

abbrev pub NoneMoreBefore : {T L : Type 0} → Label T L → (T → L → Option ℕ) → (ℕ → T) → ℕ → ℕ
    → Type 0
NoneMoreBefore label show ticks m n =
    (i : ℕ) → i < n → IsAtMost m (show (ticks i) (label_before label ticks i))

-- ---- the laws

-- the figures of the first n ticks of a run
pub record AreRunFigures (S : System) (mode : ℕ) (arrivals : List Arrival) (n : ℕ)
    (f : RunFigures) : Type 0 where
  pub seen : List Observation
  pub proper : IsProper S
  pub small : n ≤ 2 ^ 32
  pub ticks : AreTicksOf S mode arrivals n seen
  pub figures : AreFigures S seen f

-- are within bounds where no label shows more in any of these ticks
pub record StayWithin (S : System) (mode : ℕ) (arrivals : List Arrival) (n : ℕ)
    (f : RunFigures) : Type 0 where
  pub responses : (k m : ℕ) → k < length S.tasks
      → NoneMoreBefore ages leaving_age (task_ticks S mode arrivals k) m n
      → IsWithin m (slice_index_or f.tasks k (task_figures [])).responses.spread.greatest
  pub latencies : (k m : ℕ) → k < length S.routines
      → NoneMoreBefore pending start_latency (routine_ticks S mode arrivals k) m n
      → IsWithin m (slice_index_or f.routines k (routine_figures [])).latency
  pub holds : (k m : ℕ) → k < held_count S
      → NoneMoreBefore holding held_ticks (holder_ticks S mode arrivals k) m n
      → IsWithin m (slice_index_or f.resources k (resource_figures [])).longest
  -- and so does what hasn't ended behind the last of them
  pub times : (k m : ℕ) → k < length S.tasks
      → NoneMoreBefore ages oldest_age (task_ticks S mode arrivals k) m n
      → IsWithin m (response_time f.last (slice_index_or f.tasks k (task_figures [])).responses)
  pub waits : (k m : ℕ) → k < length S.routines
      → NoneMoreBefore pending waited (routine_ticks S mode arrivals k) m n
      → IsWithin m (routine_time f.last (slice_index_or f.routines k (routine_figures [])))

abbrev pub RunsStayWithin : Type 0
RunsStayWithin =
    (S : System) (mode : ℕ) (arrivals : List Arrival) (n : ℕ) (f : RunFigures)
    → AreRunFigures S mode arrivals n f → StayWithin S mode arrivals n f

-- a number is 0 in each of the first n ticks
abbrev pub IsZeroBefore : (ℕ → ℕ) → ℕ → Type 0
IsZeroBefore number n = (i : ℕ) → i < n → number i ≡ 0

-- nothing is lost, refused or answered other than E_OK where it isn't in any tick
pub record HaveNone (S : System) (mode : ℕ) (arrivals : List Arrival) (n : ℕ)
    (f : RunFigures) : Type 0 where
  pub losses : (k : ℕ) → k < length S.routines
      → IsZeroBefore (λ i. (routine_ticks S mode arrivals k i).seen.lost) n
      → (slice_index_or f.routines k (routine_figures [])).losses ≡ 0
  pub refusals : (k : ℕ) → k < length S.tasks
      → IsZeroBefore (λ i. (task_ticks S mode arrivals k i).seen.refused) n
      → (slice_index_or f.tasks k (task_figures [])).counts.refused ≡ 0
  pub actions : (k : ℕ) → k < length S.alarms
      → IsZeroBefore (λ i. one_if (alarm_ticks S mode arrivals k i).seen.is_refused) n
      → (slice_index_or f.alarms k (alarm_figures [])).refused ≡ 0
  pub errors : (k : ℕ) → k < length S.tasks
      → IsZeroBefore (λ i. one_if (task_errors S mode arrivals k i)) n
      → (slice_index_or f.tasks k (task_figures [])).counts.errors ≡ 0
  pub routine_errors : (k : ℕ) → k < length S.routines
      → IsZeroBefore (λ i. one_if (routine_errors S mode arrivals k i)) n
      → (slice_index_or f.routines k (routine_figures [])).errors ≡ 0

abbrev pub RunsHaveNone : Type 0
RunsHaveNone =
    (S : System) (mode : ℕ) (arrivals : List Arrival) (n : ℕ) (f : RunFigures)
    → AreRunFigures S mode arrivals n f → HaveNone S mode arrivals n f

-- What a tick shows of figures with the labels before it, and that it is noted.
use Rattle.std.specs.Prelude.{ℕ, Bool, false, min, List, Contains, IfSome, IsTrue, Option, Some, None, length, nat_lt}
use Rattle.std.specs.Option.{option_map}
use Rattle.osek_base.specs.declared.ids.Owner.{Owner}
use Rattle.seen_ticks.specs.declared.failures.Failure.{Failure}
use Rattle.seen_ticks.specs.declared.observation.Observation.{Observation}
use Rattle.seen_ticks.specs.Seen.{Seen, seen_of}
use Rattle.view_figures.specs.FigureSums.{is_routine, is_task, lower_executes}
use Rattle.view_measures.specs.declared.figure.Figure.{Figure}
use Rattle.view_measures.specs.declared.kind.Kind.{Kind}
use Rattle.view_measures.specs.declared.measure.Measure.{Measure}
use Rattle.view_measures.specs.Measures.{kind_of}
use Rattle.law_figures.specs.Ages.{oldest_age}
use Rattle.law_figures.specs.Blocking.{blocked_in}
use Rattle.law_figures.specs.Counts.{one_if}
use Rattle.law_figures.specs.Holding.{held_ticks}
use Rattle.law_figures.specs.Labels.{IsAtMost}
use Rattle.law_figures.specs.Times.{waited}
use Rattle.search_labels.specs.Ticks.{alarm_in, blocked_tick, holder_tick, routine_in, routine_tick, task_in, task_tick}
use Rattle.search_labels.specs.Labels.{Labels, ages_of, blocked_of, hold_of, pending_of}
use Rattle.search_peaks.specs.Peaks.{AreAtLeast, Peaks, told}

-- what a tick shows: who executes its instruction, what is seen in it, that instruction if it is a
-- service answered other than E_OK, and whether the run is over behind it
pub record TickShown : Type 0 where
  pub executor : Option Owner
  pub seen : Seen
  pub failure : Option Failure
  pub over : Bool

abbrev pub shown_by : Observation → Bool → TickShown
shown_by o over =
    record { executor = o.executor; seen = seen_of o; failure = o.failure; over = over }

-- the service that fails, if one does, is of an owner that passes a test
abbrev pub fails_by : (Option Owner → Bool) → Option Failure → Bool
fails_by test None = false
fails_by test (Some x) = test (Some x.owner)

-- for how many ticks the oldest job of a task is blocked, up to a cap
abbrev pub blocked_ticks : List ℕ → ℕ → TickShown → Labels → ℕ → ℕ
blocked_ticks levels cap t l k =
    min cap (blocked_in (blocked_tick (lower_executes levels t.executor) t.seen k) (blocked_of l k))

-- what a tick shows of a measure of the thing of a number, times up to a cap, by the static
-- priorities of all tasks
abbrev pub reading_by : List ℕ → ℕ → TickShown → Labels → Measure → ℕ → Option ℕ
reading_by levels cap t l Measure.Response k =
    option_map (min cap) (oldest_age (task_tick t.seen k) (ages_of l k))
reading_by levels cap t l Measure.Blocked k = Some (blocked_ticks levels cap t l k)
reading_by levels cap t l Measure.Blockers k = Some (min 1 (blocked_ticks levels cap t l k))
reading_by levels cap t l Measure.Jobs k = Some (task_in t.seen k).jobs
reading_by levels cap t l Measure.Refusal k = Some (min 1 (task_in t.seen k).refused)
reading_by levels cap t l Measure.Errors k =
    Some (one_if (fails_by (λ who. is_task who k) t.failure))
reading_by levels cap t l Measure.Latency i =
    option_map (min cap) (waited (routine_tick t.seen i) (pending_of l i))
reading_by levels cap t l Measure.Loss i = Some (min 1 (routine_in t.seen i).lost)
reading_by levels cap t l Measure.RoutineErrors i =
    Some (one_if (fails_by (λ who. is_routine who i) t.failure))
reading_by levels cap t l Measure.Hold r =
    option_map (min cap) (held_ticks (holder_tick t.seen r) (hold_of l r))
reading_by levels cap t l Measure.RefusedAction a = Some (one_if (alarm_in t.seen a).is_refused)
reading_by levels cap t l Measure.Shutdown z = Some (one_if t.over)

abbrev pub reading : List ℕ → ℕ → TickShown → Labels → Figure → Option ℕ
reading levels cap t l f = reading_by levels cap t l f.measure f.number

-- of how many things of a kind something is seen
abbrev pub seen_count : Seen → Kind → ℕ
seen_count seen Kind.Task = length seen.tasks
seen_count seen Kind.Routine = length seen.routines
seen_count seen Kind.Resource = length seen.holders
seen_count seen Kind.Alarm = length seen.alarms
seen_count seen Kind.System = 1

-- the thing of a figure is seen
abbrev pub is_seen : Seen → Figure → Bool
is_seen seen f = nat_lt f.number (seen_count seen (kind_of f.measure))

-- what a tick shows with the labels before it is in the peaks
pub record IsNoted (levels : List ℕ) (cap : ℕ) (peaks : Peaks) (t : TickShown)
    (l : Labels) : Type 0 where
  pub figures : (f : Figure) → IsTrue (is_seen t.seen f)
      → IsAtMost (told peaks f) (reading levels cap t l f)
  pub failures : IfSome t.failure (λ x. Contains peaks.failures x)

-- what is noted stays noted when peaks rise
abbrev pub NotesStay : Type 0
NotesStay =
    (levels : List ℕ) (cap : ℕ) (peaks others : Peaks) (t : TickShown) (l : Labels)
    → AreAtLeast peaks others → IsNoted levels cap others t l → IsNoted levels cap peaks t l

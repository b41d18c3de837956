-- What a tick changes of what is kept of tasks and routines.
use Rattle.std.specs.Prelude.{ℕ, ◌≡◌, ◌<◌, ◌≤◌, ◌++◌, ◌⊎◌, List, length, slice_index_or}
use Rattle.osek_base.specs.declared.ids.Owner.{Owner}
use Rattle.osek_base.specs.declared.trace_event.TraceEvent.{TraceEvent}
use Rattle.osek_base.specs.System.{System}
use Rattle.seen_ticks.specs.declared.observation.Observation.{Observation}
use Rattle.view_timelines.specs.declared.mark.Sign.{Sign}
use Rattle.view_timelines.specs.Moments.{begun_behind}
use Rattle.view_timelines.specs.Stretches.{added}
use Rattle.seen_ticks.specs.Seen.{task_seen}
use Rattle.view_timelines.specs.Rows.{Kept, Picture, nothing_kept, task_shown, routine_shown}
use Rattle.view_timelines.specs.Marks.{marks_of, routine_came, task_came, tick_signs}

-- a tick is drawn on the row of task k
abbrev pub task_drawn : System → Observation → ℕ → ℕ → Kept → Kept
task_drawn S o tick k kept =
    record kept { shown = record kept.shown { row = added tick (task_shown S o k kept.shown.begun) kept.shown.row } }

abbrev pub routine_drawn : System → Observation → ℕ → ℕ → Kept → Kept
routine_drawn S o tick k kept =
    record kept { shown = record kept.shown { row = added tick (routine_shown S o k) kept.shown.row } }

-- what task k has begun is kept
abbrev pub begun_kept : Observation → ℕ → Kept → Kept
begun_kept o k kept = record kept { shown = record kept.shown { begun = begun_behind kept.shown.begun (task_seen o k) } }

-- signs of a tick are marked
abbrev pub signed : ℕ → List Sign → Kept → Kept
signed tick signs kept = record kept { marks = kept.marks ++ marks_of tick signs }

-- the thing of each number changed by a function
pub record AreChanged (change : ℕ → Kept → Kept) (old new : List Kept) : Type 0 where
  pub count : length new ≡ length old
  pub each : (k : ℕ) → k < length old → slice_index_or new k nothing_kept ≡ change k (slice_index_or old k nothing_kept)

-- on the row of each number its signs are marked, and all else stays
abbrev pub AreSigned : ℕ → (ℕ → List Sign) → List Kept → List Kept → Type 0
AreSigned tick signs = AreChanged (λ k. signed tick (signs k))

-- a tick is drawn on the row of task k, with what came to it besides alarms and services, and on that of routine k
abbrev pub task_met : System → Observation → ℕ → ℕ → Kept → Kept
task_met S o tick k kept = signed tick (task_came o k) (task_drawn S o tick k kept)

abbrev pub routine_met : System → Observation → ℕ → ℕ → Kept → Kept
routine_met S o tick k kept = signed tick (routine_came o k) (routine_drawn S o tick k kept)

-- all that a tick that is drawn changes
abbrev pub task_more : System → Observation → List TraceEvent → ℕ → ℕ → Kept → Kept
task_more S o records tick k kept =
    begun_kept o k (signed tick (tick_signs S o records (Owner.Task k)) (task_drawn S o tick k kept))

abbrev pub routine_more : System → Observation → List TraceEvent → ℕ → ℕ → Kept → Kept
routine_more S o records tick k kept = signed tick (tick_signs S o records (Owner.Routine k)) (routine_drawn S o tick k kept)

-- a tick, drawn or not, leaves a picture
pub record Drawn (S : System) (o : Observation) (records : List TraceEvent) (tick : ℕ) (old new : Picture) : Type 0 where
  pub from : new.from ≡ old.from
  pub to : new.to ≡ old.to
  pub tasks : AreChanged (task_more S o records tick) old.tasks new.tasks
  pub routines : AreChanged (routine_more S o records tick) old.routines new.routines

pub record Passed (o : Observation) (old new : Picture) : Type 0 where
  pub from : new.from ≡ old.from
  pub to : new.to ≡ old.to
  pub tasks : AreChanged (begun_kept o) old.tasks new.tasks
  pub routines : new.routines ≡ old.routines

-- of the ticks from one on and before another each is drawn, and none is
abbrev pub AreDrawn : Picture → ℕ → ℕ → Type 0
AreDrawn picture first end = first < end → (picture.from ≤ first) × (end ≤ picture.to)

abbrev pub ArePassed : Picture → ℕ → ℕ → Type 0
ArePassed picture first end = first < end → (end ≤ picture.from) ⊎ (picture.to ≤ first)

-- the ticks from one on and before another are some that aren't drawn, then some that are, and again some that aren't
pub record IsDrawnPart (picture : Picture) (first end begins ends : ℕ) : Type 0 where
  pub before : first ≤ end → first ≤ begins
  pub within : begins ≤ ends
  pub behind : ends ≤ end
  pub passed : ArePassed picture first begins
  pub drawn : AreDrawn picture begins ends
  pub later : ArePassed picture ends end

-- What the rows of a picture show of the ticks of a run, oldest first and from tick 0 on.
use Rattle.std.specs.Prelude.{ℕ, ◌≡◌, ◌<◌, ◌+◌, ◌*◌, Bool, false, List, [], ◌∷◌, Option, Some, None, cond, map, length, take, drop, slice_index_or, nat_lt, ◌==◌}
use Rattle.osek_base.specs.System.{System, priority_of, routine}
use Rattle.osek_base.specs.declared.ids.Owner.{Owner}
use Rattle.osek_base.specs.declared.ids.Owner.TheVariants.{Task, Routine}
use Rattle.seen_ticks.specs.declared.observation.Observation.{Observation}
use Rattle.seen_ticks.specs.Seen.{routine_seen, task_seen}
use Rattle.view_timelines.specs.declared.held.Held.{Held}
use Rattle.view_timelines.specs.declared.mark.Mark.{Mark}
use Rattle.view_timelines.specs.declared.moment.Moment.{Moment}
use Rattle.view_timelines.specs.declared.processor.Processor.{Processor}
use Rattle.view_timelines.specs.declared.stretch.Stretch.{Stretch}
use Rattle.view_timelines.specs.Moments.{begun_behind, task_moment, routine_moment}
use Rattle.view_timelines.specs.Stretches.{stretches}

-- who has the processor where that one executes
abbrev pub processor : System → Option Owner → Processor
processor S None = Processor.Idle
processor S (Some (Task t)) = cond (nat_lt t (length S.tasks)) (Processor.Task (priority_of S t)) Processor.Idle
processor S (Some (Routine i)) = Processor.Routine

-- task k is the holder
abbrev pub is_holder : Option ℕ → ℕ → Bool
is_holder None k = false
is_holder (Some t) k = t == k

-- a bit for each of some holders, that of the first the lowest: 1 where it is task k
abbrev pub held_bits : List (Option ℕ) → ℕ → ℕ
held_bits [] k = 0
held_bits (h ∷ holders) k = cond (is_holder h k) 1 0 + 2 * held_bits holders k

-- the resources that task k holds
abbrev pub held_by : List (Option ℕ) → ℕ → Held
held_by holders k = record { bits = held_bits holders k }

-- what the row of task k shows of a tick, where its oldest job has or hasn't executed since it became ready
abbrev pub task_shown : System → Observation → ℕ → Bool → Moment
task_shown S o k begun = task_moment (task_seen o k) (processor S o.executor) (priority_of S k) begun (held_by o.holders.items k)

abbrev pub routine_shown : System → Observation → ℕ → Moment
routine_shown S o k = routine_moment (routine_seen o k) (routine S k).priority

-- whether the oldest job of task k has executed since it became ready, behind some ticks: `begun` says whether it had before them
abbrev pub begun_after : ℕ → Bool → List Observation → Bool
begun_after k begun [] = begun
begun_after k begun (o ∷ seen) = begun_after k (begun_behind begun (task_seen o k)) seen

-- what the row of task k would show of all these ticks
abbrev pub all_moments : System → ℕ → Bool → List Observation → List Moment
all_moments S k begun [] = []
all_moments S k begun (o ∷ seen) = task_shown S o k begun ∷ all_moments S k (begun_behind begun (task_seen o k)) seen

-- of things of which there is one for each tick, those of the ticks from one on and before another
abbrev pub drawn : {T : Type 0} → ℕ → ℕ → List T → List T
drawn from to each = drop from (take to each)

-- what the row of task k shows, and that of routine k: of each tick that is drawn, in order
abbrev pub task_moments : System → ℕ → ℕ → ℕ → List Observation → List Moment
task_moments S k from to seen = drawn from to (all_moments S k false seen)

abbrev pub routine_moments : System → ℕ → ℕ → ℕ → List Observation → List Moment
routine_moments S k from to seen = drawn from to (map (λ o. routine_shown S o k) seen)

-- what is shown of a task or routine: the stretches of its row, and whether a task's oldest job has executed since it became ready
pub record Shown : Type 0 where
  pub row : List Stretch
  pub begun : Bool

-- what is kept of it: that, and the marks of its row
pub record Kept : Type 0 where
  pub shown : Shown
  pub marks : List Mark

abbrev pub nothing_kept : Kept
nothing_kept = record { shown = record { row = []; begun = false }; marks = [] }

-- a picture of the ticks from one on and before another: what is kept of each task and routine, by number
pub record Picture : Type 0 where
  pub from : ℕ
  pub to : ℕ
  pub tasks : List Kept
  pub routines : List Kept

-- what is to be shown of task k and of routine k, after some ticks
abbrev pub task_row : System → ℕ → ℕ → List Observation → ℕ → Shown
task_row S from to seen k = record {
  row = stretches from (task_moments S k from to seen);
  begun = begun_after k false seen;
}

abbrev pub routine_row : System → ℕ → ℕ → List Observation → ℕ → Shown
routine_row S from to seen k = record {
  row = stretches from (routine_moments S k from to seen);
  begun = false;
}

-- there are n, and of each number is shown what belongs there
pub record AreShown (n : ℕ) (at : ℕ → Shown) (all : List Kept) : Type 0 where
  pub count : length all ≡ n
  pub each : (k : ℕ) → k < n → (slice_index_or all k nothing_kept).shown ≡ at k

-- a picture has the rows of a system's tasks and routines over these ticks
pub record AreRows (S : System) (seen : List Observation) (picture : Picture) : Type 0 where
  pub tasks : AreShown (length S.tasks) (task_row S picture.from picture.to seen) picture.tasks
  pub routines : AreShown (length S.routines) (routine_row S picture.from picture.to seen) picture.routines

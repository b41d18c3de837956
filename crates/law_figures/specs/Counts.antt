-- Counts that are 0: what is counted is seen in no tick. And numbers that are told in some ticks.
use Rattle.std.specs.Prelude.{ℕ, ◌≡◌, ◌≤◌, Bool, cond, List, Option, None, IfSome}
use Rattle.std.specs.List.{AllByRecursion}
use Rattle.view_figures.specs.declared.task_tick.TaskTick.{TaskTick}
use Rattle.view_figures.specs.declared.routine_figures.RoutineTick.{RoutineTick}
use Rattle.view_figures.specs.declared.alarm_figures.AlarmTick.{AlarmTick}
use Rattle.view_figures.specs.TaskSums.{task_counts}
use Rattle.view_figures.specs.RoutineSums.{routine_figures}
use Rattle.view_figures.specs.AlarmSums.{alarm_figures}

abbrev pub one_if : Bool → ℕ
one_if b = cond b 1 0

-- nothing is counted in any tick
abbrev pub IsNever : {T : Type 0} → (T → ℕ) → List T → Type 0
IsNever number seen = AllByRecursion (λ t. number t ≡ 0) seen

-- a count is 0 exactly where nothing is counted in any tick
pub record IsCountOf {T : Type 0} (number : T → ℕ) (seen : List T) (count : ℕ) : Type 0 where
  pub none : IsNever number seen → count ≡ 0
  pub never : count ≡ 0 → IsNever number seen

-- a first tick is told exactly where something is counted
pub record IsFirstOf {T : Type 0} (number : T → ℕ) (seen : List T) (first : Option ℕ) : Type 0 where
  pub none : IsNever number seen → first ≡ None
  pub never : first ≡ None → IsNever number seen

-- ---- laws

pub record TaskCountsTell (seen : List TaskTick) : Type 0 where
  pub refused : IsCountOf (λ (t : TaskTick). t.seen.refused) seen (task_counts seen).refused
  pub first_refusal :
      IsFirstOf (λ (t : TaskTick). t.seen.refused) seen (task_counts seen).first_refusal
  pub errors : IsCountOf (λ (t : TaskTick). one_if t.has_failed) seen (task_counts seen).errors
  -- the greatest number of blockers is within a bound exactly where each that is told is
  pub within : (m : ℕ) → AllByRecursion (λ t. IfSome t.blockers (λ n. n ≤ m)) seen
      → IfSome (task_counts seen).blockers (λ n. n ≤ m)
  pub told : (m : ℕ) → IfSome (task_counts seen).blockers (λ n. n ≤ m)
      → AllByRecursion (λ t. IfSome t.blockers (λ n. n ≤ m)) seen

pub record RoutineCountsTell (seen : List RoutineTick) : Type 0 where
  pub losses : IsCountOf (λ (r : RoutineTick). r.seen.lost) seen (routine_figures seen).losses
  pub first_loss :
      IsFirstOf (λ (r : RoutineTick). r.seen.lost) seen (routine_figures seen).first_loss
  pub errors :
      IsCountOf (λ (r : RoutineTick). one_if r.has_failed) seen (routine_figures seen).errors

pub record AlarmCountsTell (seen : List AlarmTick) : Type 0 where
  pub refused :
      IsCountOf (λ (a : AlarmTick). one_if a.seen.is_refused) seen (alarm_figures seen).refused
  pub first_refusal :
      IsFirstOf (λ (a : AlarmTick). one_if a.seen.is_refused) seen
      (alarm_figures seen).first_refusal

abbrev pub CountsTell : Type 0
CountsTell =
    ((seen : List TaskTick) → TaskCountsTell seen)
    × ((seen : List RoutineTick) → RoutineCountsTell seen)
    × ((seen : List AlarmTick) → AlarmCountsTell seen)

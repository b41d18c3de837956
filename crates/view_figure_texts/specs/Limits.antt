-- Which limits a run breaks: a line each, with the tick at which it was.
use Rattle.std.specs.Prelude.{ℕ, Bool, true, not, ◌&&◌, ◌||◌, cond, Option, Some, None, is_none, List, [], ◌++◌, length, nat_lt, slice_get, codes, decimal}
use Rattle.std.specs.List.{flat_map, list_all}
use Rattle.std.specs.Option.{option_and_then}
use Rattle.osek_base.specs.Lists.{below}
use Rattle.osek_base.specs.Names.{number_of}
use Rattle.osek_base.specs.System.{System}
use Rattle.view_figures.specs.declared.reached.Reached.{Reached}
use Rattle.view_figures.specs.declared.task_figures.TaskFigures.{TaskFigures}
use Rattle.view_figures.specs.declared.routine_figures.RoutineFigures.{RoutineFigures}
use Rattle.view_figures.specs.declared.alarm_figures.AlarmFigures.{AlarmFigures}
use Rattle.view_figures.specs.FigureSums.{RunFigures}
use Rattle.view_figures.specs.Reaching.{worse_of}
use Rattle.view_figures.specs.ResponseSums.{oldest_response}
use Rattle.view_figures.specs.RoutineSums.{pending_age}
use Rattle.view_measures.specs.declared.kind.Kind.{Kind}
use Rattle.view_figure_texts.specs.declared.limits.Limit.{Limit}
use Rattle.view_figure_texts.specs.declared.limits.Limits.{Limits}
use Rattle.view_measures.specs.Kinds.{name_of}

-- ---- times

-- the longest time of a task: its greatest response, or the age of its oldest job that neither ended nor
-- waits behind the last tick, if that is greater
abbrev pub task_worst : ℕ → TaskFigures → Option Reached
task_worst last f =
    worse_of f.responses.spread.greatest (oldest_response last f.responses.ready_since)

-- that of a routine: its greatest latency, or the age of an interrupt that is pending behind the last
-- tick, if that is greater
abbrev pub routine_worst : ℕ → RoutineFigures → Option Reached
routine_worst last f = worse_of f.latency (pending_age last f.pending_since)

-- of the object of a name, if there is one
abbrev pub worst_named : {X : Type 0} → (X → Option Reached) → List X → List (List ℕ) → List ℕ
    → Option Reached
worst_named worst things names name =
    option_and_then worst (option_and_then (slice_get things) (number_of name names))

-- the line of a limit that a time is above
abbrev pub broken_time : List ℕ → ℕ → Reached → List ℕ
broken_time name most r =
    codes "broken: " ++ name ++ codes " " ++ decimal r.ticks ++ codes " of " ++ decimal most
    ++ codes " at " ++ decimal r.at ++ codes "\n"

-- .. where it is above
unfoldable pub time_text : List ℕ → ℕ → Option Reached → List ℕ
time_text name most None = []
time_text name most (Some r) = cond (nat_lt most r.ticks) (broken_time name most r) []

abbrev pub task_time : System → RunFigures → List ℕ → Option Reached
task_time S f name = worst_named (task_worst f.last) f.tasks S.names.tasks name

abbrev pub routine_time : System → RunFigures → List ℕ → Option Reached
routine_time S f name = worst_named (routine_worst f.last) f.routines S.names.routines name

-- the lines of a limit, on the task and the routine of its name
unfoldable pub limit_lines : System → RunFigures → Limit → List ℕ
limit_lines S f limit =
    time_text limit.name.now limit.ticks (task_time S f limit.name.now)
    ++ time_text limit.name.now limit.ticks (routine_time S f limit.name.now)

-- ---- losses and refusals

-- the line of something that was seen first at a tick
unfoldable pub first_text : List ℕ → List ℕ → Option ℕ → List ℕ
first_text name what None = []
first_text name what (Some tick) =
    codes "broken: " ++ name ++ codes " " ++ what ++ codes " at " ++ decimal tick ++ codes "\n"

-- when it was first seen of the thing of a number
abbrev pub first_at : {X : Type 0} → (X → Option ℕ) → List X → ℕ → Option ℕ
first_at first things n = option_and_then first (slice_get things n)

-- the line of the object of a number of a kind, and those of all
abbrev pub first_line_of : {X : Type 0} → System → Kind → List ℕ → (X → Option ℕ) → List X → ℕ → List ℕ
first_line_of S kind what first things n =
    first_text (name_of S kind n) what (first_at first things n)

abbrev pub first_lines : {X : Type 0} → System → Kind → List ℕ → (X → Option ℕ) → List X → List ℕ
first_lines S kind what first things =
    flat_map (first_line_of S kind what first things) (below (length things))

unfoldable pub loss_lines : System → RunFigures → List ℕ
loss_lines S f =
    first_lines S Kind.Routine (codes "loss") (λ (r : RoutineFigures). r.first_loss) f.routines

unfoldable pub task_refusal_lines : System → RunFigures → List ℕ
task_refusal_lines S f =
    first_lines S Kind.Task (codes "refusal") (λ (t : TaskFigures). t.counts.first_refusal) f.tasks

unfoldable pub alarm_refusal_lines : System → RunFigures → List ℕ
alarm_refusal_lines S f =
    first_lines S Kind.Alarm (codes "refusal") (λ (a : AlarmFigures). a.first_refusal) f.alarms

-- those of a limit on all of a kind, where it is set
abbrev pub lines_where : Bool → List ℕ → List ℕ
lines_where is_set lines = cond is_set lines []

abbrev pub refusal_lines : System → RunFigures → List ℕ
refusal_lines S f = task_refusal_lines S f ++ alarm_refusal_lines S f

-- ---- all

-- the lines of limits on times, then those of losses and of refusals, where there may be none
unfoldable pub broken_text : System → RunFigures → Limits → List ℕ
broken_text S f limits =
    flat_map (limit_lines S f) limits.times.now
    ++ lines_where limits.no_loss (loss_lines S f)
    ++ lines_where limits.no_refusal (refusal_lines S f)

-- ---- the verdict

-- no time is above so many ticks
abbrev pub is_within : ℕ → Option Reached → Bool
is_within most None = true
is_within most (Some r) = not (nat_lt most r.ticks)

-- the task and the routine of a limit's name keep it
abbrev pub is_kept : System → RunFigures → Limit → Bool
is_kept S f limit =
    is_within limit.ticks (task_time S f limit.name.now)
    && is_within limit.ticks (routine_time S f limit.name.now)

-- it was seen of no thing
abbrev pub is_unseen : {X : Type 0} → (X → Option ℕ) → List X → Bool
is_unseen first things = list_all (λ x. is_none (first x)) things

-- no interrupt was lost; no activation and no action was refused
abbrev pub has_no_loss : RunFigures → Bool
has_no_loss f = is_unseen (λ (r : RoutineFigures). r.first_loss) f.routines

abbrev pub has_no_refusal : RunFigures → Bool
has_no_refusal f =
    is_unseen (λ (t : TaskFigures). t.counts.first_refusal) f.tasks
    && is_unseen (λ (a : AlarmFigures). a.first_refusal) f.alarms

-- a run keeps its limits
unfoldable pub are_kept : System → RunFigures → Limits → Bool
are_kept S f limits =
    list_all (is_kept S f) limits.times.now
    && ((not limits.no_loss || has_no_loss f) && (not limits.no_refusal || has_no_refusal f))

-- What `stats` tells of a run, section by section: the figures of each object, each with its word.
use Rattle.std.specs.Prelude.{ℕ, ◌*◌, ◌-◌, ◌==◌, cond, Option, Some, None, List, [], ◌∷◌, length, slice_get, codes}
use Rattle.std.specs.Option.{option_map_or}
use Rattle.osek_base.specs.System.{System}
use Rattle.view_figures.specs.declared.reached.Reached.{Reached}
use Rattle.view_figures.specs.declared.task_figures.TaskFigures.{TaskFigures}
use Rattle.view_figures.specs.declared.routine_figures.RoutineFigures.{RoutineFigures}
use Rattle.view_figures.specs.declared.resource_figures.ResourceFigures.{ResourceFigures}
use Rattle.view_figures.specs.declared.alarm_figures.AlarmFigures.{AlarmFigures}
use Rattle.view_figures.specs.FigureSums.{RunFigures}
use Rattle.view_figures.specs.ResponseSums.{oldest_response}
use Rattle.view_measures.specs.declared.kind.Kind.{Kind}
use Rattle.view_figure_texts.specs.declared.cells.Cell.{Cell}
use Rattle.view_figure_texts.specs.declared.entry.Entry.{Entry}
use Rattle.view_figure_texts.specs.declared.section.Section.{Section}
use Rattle.view_figure_texts.specs.declared.words.Word.{Word}
use Rattle.view_figure_texts.specs.Rounding.{rounded}
use Rattle.view_measures.specs.Kinds.{kind_word, name_of}

-- ---- figures

-- a figure with its word; a count
abbrev pub told : Word → Cell → Entry
told word cell = record { word = word; cell = cell }

abbrev pub counted : Word → ℕ → Entry
counted word n = told word (Cell.Count n)

-- a quotient in tenths, nothing of nothing
abbrev pub quotient : ℕ → ℕ → Cell
quotient part whole = option_map_or Cell.Tenths (rounded part whole) Cell.Nothing

-- a share of the ticks, in percent
abbrev pub load : ℕ → ℕ → Cell
load executed ticks = quotient (100 * executed) ticks

-- a count, if there is one
abbrev pub count_cell : Option ℕ → Cell
count_cell None = Cell.Nothing
count_cell (Some n) = Cell.Count n

-- a number of ticks, if one was reached, and when it was
abbrev pub ticks_cell : Option Reached → Cell
ticks_cell None = Cell.Nothing
ticks_cell (Some r) = Cell.Count r.ticks

abbrev pub at_cell : Option Reached → Cell
at_cell None = Cell.Nothing
at_cell (Some r) = Cell.Count r.at

-- the least of so many responses
abbrev pub least_cell : ℕ → ℕ → Cell
least_cell count least = cond (count == 0) Cell.Nothing (Cell.Count least)

-- ---- the figures of each object

abbrev pub run_entries : RunFigures → List Entry
run_entries f =
    counted Word.Ticks f.ticks ∷ counted Word.Idle f.idle
    ∷ told Word.Load (load (f.ticks - f.idle) f.ticks) ∷ []

abbrev pub job_entries : TaskFigures → List Entry
job_entries f =
    counted Word.Activations f.counts.activations ∷ counted Word.Refused f.counts.refused
    ∷ counted Word.Ended f.counts.ended ∷ counted Word.Unfinished f.counts.unfinished
    ∷ counted Word.Errors f.counts.errors ∷ told Word.Blockers (count_cell f.counts.blockers) ∷ []

-- behind a last tick
abbrev pub response_entries : ℕ → TaskFigures → List Entry
response_entries last f =
    let spread = f.responses.spread in
    counted Word.Responses spread.count ∷ told Word.Least (least_cell spread.count spread.least)
    ∷ told Word.Mean (quotient spread.sum spread.count)
    ∷ told Word.Greatest (ticks_cell spread.greatest) ∷ told Word.GreatestAt (at_cell spread.greatest)
    ∷ told Word.Oldest (ticks_cell (oldest_response last f.responses.ready_since)) ∷ []

-- of so many ticks
abbrev pub time_entries : ℕ → TaskFigures → List Entry
time_entries ticks f =
    counted Word.Executed f.times.executed ∷ counted Word.Ready f.times.ready
    ∷ counted Word.Preempted f.times.preempted ∷ counted Word.Blocked f.times.blocked
    ∷ counted Word.Waiting f.times.waiting ∷ told Word.Load (load f.times.executed ticks) ∷ []

abbrev pub routine_entries : RoutineFigures → List Entry
routine_entries f =
    counted Word.Arrivals f.arrivals ∷ counted Word.Starts f.starts ∷ counted Word.Losses f.losses
    ∷ counted Word.Errors f.errors ∷ told Word.Latency (ticks_cell f.latency)
    ∷ told Word.LatencyAt (at_cell f.latency) ∷ told Word.Pending (count_cell f.pending_since) ∷ []

abbrev pub resource_entries : ResourceFigures → List Entry
resource_entries f =
    counted Word.Gets f.gets ∷ told Word.Longest (ticks_cell f.longest)
    ∷ told Word.LongestAt (at_cell f.longest) ∷ []

abbrev pub alarm_entries : AlarmFigures → List Entry
alarm_entries f = counted Word.Expiries f.expiries ∷ counted Word.Refused f.refused ∷ []

-- ---- sections

-- the sections, in the order in which they stand
abbrev pub sections : List Section
sections =
    Section.Run ∷ Section.Jobs ∷ Section.Responses ∷ Section.Times
    ∷ Section.Routines ∷ Section.Resources ∷ Section.Alarms ∷ []

-- the kind of the objects of a section; none of the whole run
abbrev pub kind_of : Section → Option Kind
kind_of Section.Run = None
kind_of Section.Jobs = Some Kind.Task
kind_of Section.Responses = Some Kind.Task
kind_of Section.Times = Some Kind.Task
kind_of Section.Routines = Some Kind.Routine
kind_of Section.Resources = Some Kind.Resource
kind_of Section.Alarms = Some Kind.Alarm

-- the word of a section, and the name of the object of a number in it
abbrev pub section_word : Section → List ℕ
section_word section = option_map_or kind_word (kind_of section) (codes "run")

abbrev pub object_name : System → Section → ℕ → List ℕ
object_name S section n = option_map_or (λ kind. name_of S kind n) (kind_of section) []

-- how many objects a section has
abbrev pub object_count : RunFigures → Section → ℕ
object_count f Section.Run = 1
object_count f Section.Jobs = length f.tasks
object_count f Section.Responses = length f.tasks
object_count f Section.Times = length f.tasks
object_count f Section.Routines = length f.routines
object_count f Section.Resources = length f.resources
object_count f Section.Alarms = length f.alarms

-- what is told of the thing of a number, nothing where there is none
abbrev pub told_at : {X : Type 0} → (X → List Entry) → List X → ℕ → List Entry
told_at entries things n = option_map_or entries (slice_get things n) []

-- the figures of the object of a number in a section
abbrev pub entries_of : RunFigures → Section → ℕ → List Entry
entries_of f Section.Run n = run_entries f
entries_of f Section.Jobs n = told_at job_entries f.tasks n
entries_of f Section.Responses n = told_at (response_entries f.last) f.tasks n
entries_of f Section.Times n = told_at (time_entries f.ticks) f.tasks n
entries_of f Section.Routines n = told_at routine_entries f.routines n
entries_of f Section.Resources n = told_at resource_entries f.resources n
entries_of f Section.Alarms n = told_at alarm_entries f.alarms n

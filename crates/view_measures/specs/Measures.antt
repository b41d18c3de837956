-- What is told of the things of each kind, and figures: a measure, and the number of its thing.
use Rattle.std.specs.Prelude.{ℕ, ◌==◌, ◌&&◌, Bool, List, [], ◌∷◌, nat_lt}
use Rattle.osek_base.specs.System.{System}
use Rattle.view_measures.specs.declared.figure.Figure.{Figure}
use Rattle.view_measures.specs.declared.kind.Kind.{Kind}
use Rattle.view_measures.specs.declared.measure.Measure.{Measure}
use Rattle.view_measures.specs.declared.measure.Sort.{Sort}
use Rattle.view_measures.specs.Kinds.{count_of}

-- ---- the tables

-- the kind of things of which a measure is told
abbrev pub kind_of : Measure → Kind
kind_of Measure.Response = Kind.Task
kind_of Measure.Blocked = Kind.Task
kind_of Measure.Blockers = Kind.Task
kind_of Measure.Jobs = Kind.Task
kind_of Measure.Refusal = Kind.Task
kind_of Measure.Errors = Kind.Task
kind_of Measure.Latency = Kind.Routine
kind_of Measure.Loss = Kind.Routine
kind_of Measure.RoutineErrors = Kind.Routine
kind_of Measure.Hold = Kind.Resource
kind_of Measure.RefusedAction = Kind.Alarm
kind_of Measure.Shutdown = Kind.System

-- what its numbers tell: a time, how many, or whether something comes
abbrev pub sort_of : Measure → Sort
sort_of Measure.Response = Sort.Time
sort_of Measure.Blocked = Sort.Time
sort_of Measure.Blockers = Sort.Count
sort_of Measure.Jobs = Sort.Count
sort_of Measure.Refusal = Sort.Coming
sort_of Measure.Errors = Sort.Coming
sort_of Measure.Latency = Sort.Time
sort_of Measure.Loss = Sort.Coming
sort_of Measure.RoutineErrors = Sort.Coming
sort_of Measure.Hold = Sort.Time
sort_of Measure.RefusedAction = Sort.Coming
sort_of Measure.Shutdown = Sort.Coming

-- its place among all
abbrev pub place_of : Measure → ℕ
place_of Measure.Response = 0
place_of Measure.Blocked = 1
place_of Measure.Blockers = 2
place_of Measure.Jobs = 3
place_of Measure.Refusal = 4
place_of Measure.Errors = 5
place_of Measure.Latency = 6
place_of Measure.Loss = 7
place_of Measure.RoutineErrors = 8
place_of Measure.Hold = 9
place_of Measure.RefusedAction = 10
place_of Measure.Shutdown = 11

-- what is told of each thing of a kind, in the order in which it stands
abbrev pub measures_of : Kind → List Measure
measures_of Kind.Task =
    Measure.Response ∷ Measure.Blocked ∷ Measure.Blockers ∷ Measure.Jobs ∷ Measure.Refusal
    ∷ Measure.Errors ∷ []
measures_of Kind.Routine = Measure.Latency ∷ Measure.Loss ∷ Measure.RoutineErrors ∷ []
measures_of Kind.Resource = Measure.Hold ∷ []
measures_of Kind.Alarm = Measure.RefusedAction ∷ []
measures_of Kind.System = Measure.Shutdown ∷ []

-- ---- figures

abbrev pub figure : Measure → ℕ → Figure
figure measure number = record { measure = measure; number = number }

-- two figures are one
abbrev pub is_same : Figure → Figure → Bool
is_same one other = place_of one.measure == place_of other.measure && one.number == other.number

-- a system has the thing of a figure
abbrev pub is_of : System → Figure → Bool
is_of S f = nat_lt f.number (count_of S (kind_of f.measure))

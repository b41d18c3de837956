-- The stretches of a row: its longest runs of ticks that show the same.
use Rattle.std.specs.Prelude.{ℕ, ◌+◌, ◌==◌, Bool, true, false, ◌&&◌, List, [], ◌∷◌, if◌then◌else◌}
use Rattle.view_timelines.specs.declared.activity.Activity.{Activity}
use Rattle.view_timelines.specs.declared.moment.Moment.{Moment}
use Rattle.view_timelines.specs.declared.stretch.Stretch.{Stretch}

abbrev pub same_activity : Activity → Activity → Bool
same_activity Activity.Nothing Activity.Nothing = true
same_activity Activity.Executing Activity.Executing = true
same_activity Activity.Ready Activity.Ready = true
same_activity Activity.Preempted Activity.Preempted = true
same_activity Activity.Interrupted Activity.Interrupted = true
same_activity Activity.Blocked Activity.Blocked = true
same_activity Activity.Waiting Activity.Waiting = true
same_activity _ _ = false

-- two ticks show the same: equal activity, equal priority, as many jobs, and the same is held
abbrev pub same : Moment → Moment → Bool
same a b = same_activity a.activity b.activity && (a.priority == b.priority) && (a.jobs == b.jobs) && (a.held.bits == b.held.bits)

abbrev pub one_tick : ℕ → Moment → Stretch
one_tick t m = record { moment = m; first = t; last = t }

abbrev pub longer : ℕ → Stretch → Stretch
longer t s = record { moment = s.moment; first = s.first; last = t }

-- a tick before the first of some stretches: it begins that one a tick earlier where it shows the same, else it is a stretch
abbrev pub put_before : ℕ → Moment → List Stretch → List Stretch
put_before t m [] = one_tick t m ∷ []
put_before t m (s ∷ later) = if same m s.moment then record { moment = m; first = t; last = s.last } ∷ later else one_tick t m ∷ s ∷ later

-- the stretches of ticks from t on, by what each shows
abbrev pub stretches : ℕ → List Moment → List Stretch
stretches t [] = []
stretches t (m ∷ moments) = put_before t m (stretches (t + 1) moments)

-- a tick behind the last of some stretches
abbrev pub added : ℕ → Moment → List Stretch → List Stretch
added t m [] = one_tick t m ∷ []
added t m (s ∷ []) = if same s.moment m then longer t s ∷ [] else s ∷ one_tick t m ∷ []
added t m (s ∷ next ∷ later) = s ∷ added t m (next ∷ later)

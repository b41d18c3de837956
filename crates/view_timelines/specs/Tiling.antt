-- What stretches are, in other words: they tile their ticks, and each ends where what is shown changes.
use Rattle.std.specs.Prelude.{ℕ, ◌≡◌, ◌≢◌, ◌≤◌, ◌+◌, ◌-◌, List, [], ◌∷◌, ◌++◌, replicate}
use Rattle.view_timelines.specs.declared.moment.Moment.{Moment}
use Rattle.view_timelines.specs.declared.stretch.Stretch.{Stretch}
use Rattle.view_timelines.specs.Stretches.{stretches}

-- what the ticks of some stretches show, one by one
abbrev pub spelled : List Stretch → List Moment
spelled [] = []
spelled (s ∷ later) = replicate (s.last + 1 - s.first) s.moment ++ spelled later

-- the first begins at t, each has a tick at least, and begins behind the one before
abbrev pub AreLaid : ℕ → List Stretch → Type 0
AreLaid t [] = Unit {0}
AreLaid t (s ∷ later) = (s.first ≡ t) × (t ≤ s.last) × AreLaid (s.last + 1) later

abbrev pub DiffersFrom : Moment → List Stretch → Type 0
DiffersFrom m [] = Unit {0}
DiffersFrom m (s ∷ later) = m ≢ s.moment

-- neighbours show something else
abbrev pub AreUnlike : List Stretch → Type 0
AreUnlike [] = Unit {0}
AreUnlike (s ∷ later) = DiffersFrom s.moment later × AreUnlike later

abbrev pub TileTheTicks : Type 0
TileTheTicks = (start : ℕ) (moments : List Moment) → AreLaid start (stretches start moments) × (spelled (stretches start moments) ≡ moments)

abbrev pub DifferFromTheNext : Type 0
DifferFromTheNext = (start : ℕ) (moments : List Moment) → AreUnlike (stretches start moments)

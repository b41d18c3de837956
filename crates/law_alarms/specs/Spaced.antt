-- Ticks that lie apart, and how many of them there are in a row of ticks.
use Rattle.std.specs.Prelude.{ℕ, zero, suc, ◌+◌, ◌-◌, ◌/◌, ◌≡◌, ◌<◌, ◌≤◌, Bool, true}
use Rattle.law_runs.specs.Jobs.{one_if}

-- any two ticks up to the last that pass lie a gap apart, or more
abbrev pub IsSpaced : (ℕ → Bool) → ℕ → ℕ → Type 0
IsSpaced passes gap last =
    (t u : ℕ) → t < u → u ≤ last → passes t ≡ true → passes u ≡ true → t + gap ≤ u

-- how many ticks of a row pass: of so many, from one on
abbrev pub how_many : (ℕ → Bool) → ℕ → ℕ → ℕ
how_many passes from zero = 0
how_many passes from (suc count) = how_many passes from count + one_if (passes (from + count))

-- how many that lie a gap apart find room in so many ticks
abbrev pub most_in : ℕ → ℕ → ℕ
most_in gap count = (count - 1) / gap + 1

-- ---- the law

-- no more than find room
abbrev pub SpacedAreFew : Type 0
SpacedAreFew =
    (passes : ℕ → Bool) (gap last from count : ℕ) → 0 < gap → 0 < count → from + count ≤ last + 1
    → IsSpaced passes gap last → how_many passes from count ≤ most_in gap count

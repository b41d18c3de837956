use Rattle.std.specs.Prelude.{ℕ, ◌≡◌, ◌<◌, length}
use Rattle.law_windows.specs.Expiring.{most_expiries}
use Rattle.analysis_bounds.specs.Levels.{numbered}
use Rattle.analysis_bounds.specs.Pacing.{most_at, pace_in}
use Rattle.analysis_bounds.proofs.pacing.paces_of.Given as goal

abbrev pub invariant-loop-number : goal.invariant-loop-number
invariant-loop-number l =
    (length l.paces.items ≡ l.number)
    × ((a : ℕ) → a < l.number → (count : ℕ)
    → most_at (pace_in l.paces.items a) count
    ≡ most_expiries l.system l.mode (numbered l.least) count a)

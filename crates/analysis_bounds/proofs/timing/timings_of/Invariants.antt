use Rattle.std.specs.Prelude.{ℕ, ◌≡◌, ◌<◌, length}
use Rattle.analysis_bounds.specs.Levels.{numbered}
use Rattle.analysis_bounds.specs.Timing.{timing_in, timing_of}
use Rattle.analysis_bounds.proofs.timing.timings_of.Given as goal

abbrev pub invariant-loop-number : goal.invariant-loop-number
invariant-loop-number l =
    (length l.timings.items ≡ l.number)
    × ((a : ℕ) → a < l.number
    → timing_in l.timings.items a ≡ timing_of l.system l.mode (numbered l.least) a)

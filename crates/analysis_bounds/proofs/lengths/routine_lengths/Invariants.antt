use Rattle.std.specs.Prelude.{◌≡◌, length}
use Rattle.analysis_bounds.specs.Lengths.{AreLasting}
use Rattle.analysis_bounds.proofs.lengths.routine_lengths.Given as goal

abbrev pub invariant-loop-routine : goal.invariant-loop-routine
invariant-loop-routine l =
    (length l.counts.items ≡ l.routine) × AreLasting l.system l.counts.items

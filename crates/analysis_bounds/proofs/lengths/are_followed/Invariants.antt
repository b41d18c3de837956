use Rattle.analysis_bounds.specs.Lengths.{AreFollowed}
use Rattle.analysis_bounds.proofs.lengths.are_followed.Given as goal

abbrev pub invariant-loop-place : goal.invariant-loop-place
invariant-loop-place l = AreFollowed l.lengths l.count l.numbers l.place

use Rattle.analysis_bounds.specs.Checks.{AreWithin}
use Rattle.analysis_bounds.proofs.ways.are_within.Given as goal

abbrev pub invariant-loop-place : goal.invariant-loop-place
invariant-loop-place l = AreWithin l.system l.graph l.level l.owner l.more l.most l.numbers l.place

use Rattle.analysis_bounds.specs.Lengths.{AllGoOn}
use Rattle.analysis_bounds.proofs.lengths.all_go_on.Given as goal

abbrev pub invariant-loop-place : goal.invariant-loop-place
invariant-loop-place l = AllGoOn l.lengths l.count l.ways l.place

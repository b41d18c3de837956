use Rattle.std.proofs.Common.{◌≡◌}
use Rattle.law_nodes.specs.Shown.{choices}
use Rattle.analysis_nodes.proofs.showing.subsets.Given as goal

abbrev pub invariant-loop-event : goal.invariant-loop-event
invariant-loop-event l = l.sets.items ≡ choices l.mask l.event

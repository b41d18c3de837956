use Rattle.std.proofs.Common.{◌≡◌, map, take}
use Rattle.law_costs.specs.Settable.{all_of, sets_for}
use Rattle.analysis_nodes.proofs.settable.settable_in.Given as goal

abbrev pub invariant-loop-line : goal.invariant-loop-line
invariant-loop-line l = l.all ≡ all_of (map (sets_for l.task) (take l.line-index l.lines))

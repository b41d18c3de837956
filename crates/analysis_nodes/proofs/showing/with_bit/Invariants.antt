use Rattle.std.proofs.Common.{◌≡◌, ◌++◌, map, take}
use Rattle.std.specs.Prelude.{bit_or}
use Rattle.analysis_nodes.proofs.showing.with_bit.Given as goal

abbrev pub invariant-loop-set : goal.invariant-loop-set
invariant-loop-set l =
    l.more.items ≡ l.sets ++ map (λ v. bit_or v l.bit) (take l.set-index l.sets)

use Rattle.search_packed.proofs.BareLemmas.{IsEnough}
use Rattle.search_packed.proofs.zeros.bare_length.Given as goal

-- the bytes up to there are enough
abbrev pub invariant-loop-end : goal.invariant-loop-end
invariant-loop-end l = IsEnough l.bytes l.end

abbrev pub decreases-loop-end : goal.decreases-loop-end
decreases-loop-end l = l.end

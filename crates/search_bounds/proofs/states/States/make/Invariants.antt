use Rattle.std.proofs.Common.{◌≡◌}
use Rattle.search_bounds.proofs.states.States.make.Given as goal

-- it is of the same system still
abbrev pub invariant-loop-number : goal.invariant-loop-number
invariant-loop-number l = l.self ≡ l.fn.self

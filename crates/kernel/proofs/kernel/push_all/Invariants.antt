use Rattle.std.proofs.Common.{◌≡◌, ◌++◌, take}
use Rattle.kernel.proofs.kernel.push_all.Given as goal

abbrev pub invariant-loop-index : goal.invariant-loop-index
invariant-loop-index l = (l.record_of_tick ≡ l.initial.record_of_tick ++ take l.index l.more)

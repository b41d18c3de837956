use Rattle.std.proofs.Common.{◌≡◌}
use Rattle.kernel.proofs.WorkRuns.{GoesOnWorking}
use Rattle.kernel.proofs.kernel.Kernel.pass_plain.Given as goal

-- so many ticks were done in which the running task worked; where none was, what the last of them executed is untouched
abbrev pub invariant-loop-ticks : goal.invariant-loop-ticks
invariant-loop-ticks g l =
    (GoesOnWorking g.B.Blockers.are_counted l.most l.fn.self l.self l.ticks l.last) × (l.ticks ≡ 0 → l.last ≡ l.fn.last)

use Rattle.std.proofs.Common.{◌≡◌, ◌++◌, take, drop}
use Rattle.services.proofs.copying.copy_windows.Given as goal

-- the first ones are copied, the others as they were
abbrev pub invariant-loop-number : goal.invariant-loop-number
invariant-loop-number l = l.windows ≡ take l.number l.others ++ drop l.number l.initial.windows

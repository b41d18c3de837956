-- The places so far, and the labels of the open program.
use Rattle.std.proofs.Common.{length, ◌-◌}
use Rattle.task_asm.proofs.TargetLemmas.{Aimed}
use Rattle.task_asm.proofs.assembler.targets.Given as goal

abbrev pub invariant-statements : goal.invariant-statements
invariant-statements l = Aimed l.statements l.at l.labels l.targets.items

abbrev pub decreases-statements : goal.decreases-statements
decreases-statements l = length l.statements - l.at

-- The statements so far have no fault; what is kept is of the open program and of the names so far.
use Rattle.std.proofs.Common.{length, ◌-◌}
use Rattle.task_asm.proofs.OpenLemmas.{Behind}
use Rattle.task_asm.proofs.text_faults.first_fault.Given as goal

abbrev pub invariant-statements : goal.invariant-statements
invariant-statements l = Behind l.statements l.at l.program l.passed l.names

abbrev pub decreases-statements : goal.decreases-statements
decreases-statements l = length l.statements - l.at

-- What is known of the labels so far, and what the statements that are left define.
use Rattle.std.proofs.Common.{length, ◌-◌}
use Rattle.task_asm.proofs.LabelLemmas.{Known}
use Rattle.task_asm.specs.Walk.{finds}
use Rattle.task_asm.proofs.labels.definitions.Given as goal

abbrev pub invariant-statements : goal.invariant-statements
invariant-statements l = Known l.statements l.at l.place (finds l.definitions)

abbrev pub decreases-statements : goal.decreases-statements
decreases-statements l = length l.statements - l.at

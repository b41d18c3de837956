-- The instructions and programs of the statements that were taken.
use Rattle.std.proofs.Common.{vec_len}
use Rattle.task_asm.proofs.ProgramLemmas.{Built}
use Rattle.task_asm.proofs.assembler.programs.Given as goal

abbrev pub invariant-statements : goal.invariant-statements
invariant-statements l = Built l.fn.statements.items l.targets l.statements.items (vec_len l.statements) l.lines.items l.programs.items

abbrev pub decreases-statements : goal.decreases-statements
decreases-statements l = vec_len l.statements

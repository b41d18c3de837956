-- Program texts: a program with names for operands.
use Rattle.std.specs.Prelude.{ℕ, List}
use Rattle.task_asm.specs.declared.program.ProgramKind.{ProgramKind}
use Rattle.task_asm.specs.declared.program.NamedInstr.{NamedInstr}

-- whose it is, and its instructions from place 0 on
pub record Program : Type 0 where
  pub kind : ProgramKind
  pub name : List ℕ
  pub instructions : List NamedInstr

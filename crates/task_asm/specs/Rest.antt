-- The tokens of a line that are still to be read.
use Rattle.std.specs.Prelude.{drop}
use Rattle.task_asm.specs.declared.operands.Operands.{Operands}
use Rattle.task_asm.specs.Tokens.{lexemes_of}
use Rattle.task_asm.specs.Lines.{Tokens}

abbrev pub rest_of : Operands → Tokens
rest_of operands = lexemes_of (drop operands.next operands.tokens.now)

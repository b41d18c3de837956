use Rattle.std.proofs.Common.{sym, ◌∙◌}
use Rattle.task_asm.specs.declared.tokens.Class.TheVariants as class
use Rattle.task_asm.proofs.PieceLemmas.{no_piece}
use Rattle.task_asm.proofs.tokens.TokenToken.piece_at.Goals as goal

pub returns-in-Digit-clause-none : goal.returns-in-Digit-clause-none
returns-in-Digit-clause-none c = no_piece class.Digit c.args.bytes.now c.number.result (sym c.class_of.ensures ∙ c.in-Digit.is) c.number.ensures

pub returns-in-Dot-clause-none : goal.returns-in-Dot-clause-none
returns-in-Dot-clause-none c = no_piece class.Dot c.args.bytes.now c.directive.result (sym c.class_of.ensures ∙ c.in-Dot.is) c.directive.ensures

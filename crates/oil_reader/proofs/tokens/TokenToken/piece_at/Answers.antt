use Rattle.std.proofs.Common.{sym, ◌∙◌}
use Rattle.oil_reader.specs.declared.tokens.Class.TheVariants as class
use Rattle.oil_reader.proofs.OneMeaning.{no_piece}
use Rattle.oil_reader.proofs.tokens.TokenToken.piece_at.Goals as goal

pub returns-in-Digit-clause-none : goal.returns-in-Digit-clause-none
returns-in-Digit-clause-none c = no_piece class.Digit c.args.bytes.now c.number.result (sym c.class_of.ensures ∙ c.in-Digit.is) c.number.ensures

pub returns-in-Slash-clause-none : goal.returns-in-Slash-clause-none
returns-in-Slash-clause-none c = no_piece class.Slash c.args.bytes.now c.comment.result (sym c.class_of.ensures ∙ c.in-Slash.is) c.comment.ensures

pub returns-in-Quote-clause-none : goal.returns-in-Quote-clause-none
returns-in-Quote-clause-none c = no_piece class.Quote c.args.bytes.now c.version.result (sym c.class_of.ensures ∙ c.in-Quote.is) c.version.ensures

use Rattle.std.proofs.Common.{length, ◌-◌}
use Rattle.osek_base.specs.Tokens.{lexemes_of}
use Rattle.osek_base.proofs.TokenLemmas.{TokensBefore}
use Rattle.osek_base.proofs.lexing.tokenize.Given as goal

abbrev pub invariant-pieces : goal.invariant-pieces
invariant-pieces g l = TokensBefore g.T.Token.IsPiece l.text l.place (lexemes_of g.T.Token.word l.tokens.items)

abbrev pub decreases-pieces : goal.decreases-pieces
decreases-pieces g l = length l.text - l.place

use Rattle.std.proofs.Common.{◌≡◌, ◌+◌, ◌++◌, ◌∷◌, [], sym, ap, ◌∙◌, subst}
use Rattle.std.proofs.lemmas.List.{map_push, take_rest}
use Rattle.osek_base.specs.Tokens.{lexemes_of, lexeme_of}
use Rattle.osek_base.proofs.TokenLemmas.{TokensBefore, gap_at, token_at, before_none, before_end}
use Rattle.osek_base.proofs.lexing.tokenize.Goals as goal
use Rattle.osek_base.proofs.lexing.tokenize.Goals.{in-Some-token+in_ok-push, in_default-token}

pub returns-in_default-clause-fault : goal.returns-in_default-clause-fault
returns-in_default-clause-fault g c =
    before_none g.T.Token.IsPiece c.args.text.now c.pieces.place (lexemes_of g.T.Token.word c.pieces.tokens.items) c.pieces-test.true
    (rw take_rest at c.in_default.ensures.none) c.pieces.invariant

pub pieces-preserved : goal.pieces-preserved
pieces-preserved g c =
    let some = rw take_rest at c.in-Some.ensures.some in
    let within = rw take_rest at c.in-Some.ensures.within in
    let text = c.args.text.now in
    let p = c.pieces.place in
    let ts = lexemes_of g.T.Token.word c.pieces.tokens.items in
    let n = c.in-Some.piece.len in
    elim c.match-piece.branch [
      | in-Some-token+in_ok-push w ↦
          let pushed : lexemes_of g.T.Token.word c.match-piece.tokens.items ≡ ts ++ lexeme_of g.T.Token.word (record { place = p; token = w.in-Some-token.token }) ∷ [] =
          ap (λ v. lexemes_of g.T.Token.word v.items) w.tokens-is ∙ rw w.in_ok-push.ensures.items (map_push (lexeme_of g.T.Token.word) c.pieces.tokens.items _) in
          subst (TokensBefore g.T.Token.IsPiece text (p + n)) (sym pushed)
          (token_at g.T.Token.word g.T.Token.IsPiece text p ts n c.pieces-test.true within.1 c.pieces.invariant c.in-Some.piece.token w.in-Some-token.token w.in-Some-token.is some)
      | in_default-token w ↦
          subst (λ v. TokensBefore g.T.Token.IsPiece text (p + n) (lexemes_of g.T.Token.word v.items)) (sym w.tokens-is)
          (gap_at g.T.Token.word g.T.Token.IsPiece text p ts n c.pieces-test.true within.1 c.pieces.invariant c.in-Some.piece.token w.in_default-token.is some)
    ]

pub returns-clause-tokens : goal.returns-clause-tokens
returns-clause-tokens g c =
    before_end g.T.Token.IsPiece c.args.text.now c.pieces.place (lexemes_of g.T.Token.word c.pieces.tokens.items) c.pieces-test.false c.pieces.invariant

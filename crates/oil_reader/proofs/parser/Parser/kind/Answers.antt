use Rattle.std.proofs.Common.{sym, ◌∙◌, ◌≡◌, ◌∷◌, ap}
use Rattle.oil_reader.specs.Tokens.{Word, Name, word_of}
use Rattle.oil_reader.specs.Grammar.{at, kind_word}
use Rattle.oil_reader.specs.Rest.{rest_of}
use Rattle.oil_reader.proofs.Passes.{kind_spelled}
use Rattle.oil_reader.proofs.parser.Parser.kind.Goals as goal

pub returns-in-Some-of_word : goal.returns-in-Some-of_word
returns-in-Some-of_word c =
    let word : word_of c.in-Some.token.token ≡ Name (kind_word c.in-Some-of_word.kind) = ap word_of c.in-Name.is ∙ ap Name (kind_spelled c.in-Name.word.text.now c.in-Some-of_word.kind (sym c.in-Some-of_word.ensures)) in
    (c.token.ensures.len, record { place = c.in-Some.token.place; spelled = c.in-Some.ensures.token ∙ ap (λ (w : Word). at c.in-Some.token.place w ∷ rest_of c.token.new.self) word })

use Rattle.oil_reader.specs.Tokens.{lexemes_of}
use Rattle.oil_reader.proofs.Language.{answer_of}
use Rattle.oil_reader.proofs.parser.parse.Goals as goal

pub returns-clause-err : goal.returns-clause-err
returns-clause-err c = answer_of c.args.len (lexemes_of c.args.tokens.now) c.file.result c.file.ensures.err

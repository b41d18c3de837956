use Rattle.std.proofs.Common.{◌∷◌, []}
use Rattle.oil_reader.specs.declared.tokens.Sign.TheVariants.{Equals}
use Rattle.oil_reader.specs.Grammar.{IsAttribute}
use Rattle.oil_reader.specs.Machine.{AnyName, AnyValue, Only, Rest, Attributes}
use Rattle.oil_reader.specs.Trees.{attribute_of}
use Rattle.oil_reader.proofs.Lists.{attributes_refuse}
use Rattle.oil_reader.proofs.Passes.{attribute_passes}
use Rattle.oil_reader.proofs.Shorter.{attribute_shorter}
use Rattle.oil_reader.proofs.Nexts.{reads_next}
use Rattle.oil_reader.proofs.parser.AttributeInBraces.next.Goals as goal

pub returns : goal.returns
returns c = reads_next attribute_of IsAttribute Attributes (AnyName ∷ Only Equals ∷ AnyValue ∷ Rest ∷ []) attributes_refuse attribute_passes attribute_shorter c.args.parser.now c.attribute.new.self c.requires c.attribute.result c.attribute.ensures

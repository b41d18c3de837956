use Rattle.std.proofs.Common.{◌∷◌, []}
use Rattle.oil_reader.specs.declared.tokens.Sign.TheVariants.{Equals, Semicolon}
use Rattle.oil_reader.specs.Grammar.{IsSub}
use Rattle.oil_reader.specs.Machine.{AnyName, AnyValue, Only, Subs}
use Rattle.oil_reader.specs.Trees.{setting_of}
use Rattle.oil_reader.proofs.Lists.{subs_refuse}
use Rattle.oil_reader.proofs.Passes.{sub_passes}
use Rattle.oil_reader.proofs.Shorter.{sub_shorter}
use Rattle.oil_reader.proofs.Nexts.{reads_next}
use Rattle.oil_reader.proofs.parser.SettingInBraces.next.Goals as goal

pub returns : goal.returns
returns c = reads_next setting_of IsSub Subs (AnyName ∷ Only Equals ∷ AnyValue ∷ Only Semicolon ∷ []) subs_refuse sub_passes sub_shorter c.args.parser.now c.sub.new.self c.requires c.sub.result c.sub.ensures

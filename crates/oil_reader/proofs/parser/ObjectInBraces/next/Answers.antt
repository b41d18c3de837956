use Rattle.std.proofs.Common.{◌∷◌, []}
use Rattle.oil_reader.specs.Grammar.{IsObject}
use Rattle.oil_reader.specs.Machine.{AnyKind, AnyName, Body, Objects}
use Rattle.oil_reader.specs.Trees.{object_of}
use Rattle.oil_reader.proofs.Lists.{objects_refuse}
use Rattle.oil_reader.proofs.Passes.{object_passes}
use Rattle.oil_reader.proofs.Shorter.{object_shorter}
use Rattle.oil_reader.proofs.Nexts.{reads_next}
use Rattle.oil_reader.proofs.parser.ObjectInBraces.next.Goals as goal

pub returns : goal.returns
returns c = reads_next object_of IsObject Objects (AnyKind ∷ AnyName ∷ Body ∷ []) objects_refuse object_passes object_shorter c.args.parser.now c.object.new.self c.requires c.object.result c.object.ensures

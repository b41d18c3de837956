use Rattle.std.proofs.Common.{◌∙◌}
use Rattle.system_gen.proofs.Lookups.{named}
use Rattle.system_gen.proofs.table.NameTable.has.Goals as goal

pub returns : goal.returns
returns c = c.contains.ensures ∙ named c.as_str.result.now c.self.inside.names.keys ∙ cc

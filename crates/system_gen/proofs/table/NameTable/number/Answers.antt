use Rattle.std.proofs.Common.{◌∙◌, ap}
use Rattle.std.specs.Option.{unwrap_or}
use Rattle.system_gen.proofs.Lookups.{numbered}
use Rattle.system_gen.proofs.table.NameTable.number.Goals as goal

pub returns-in-Some-clause-value : goal.returns-in-Some-clause-value
returns-in-Some-clause-value c = ap (λ o. unwrap_or o 0) (c.in-Some.ensures.index ∙ numbered c.as_str.result.now c.self.inside.names.keys) ∙ cc

pub returns-in-None-clause-value : goal.returns-in-None-clause-value
returns-in-None-clause-value c = ap (λ o. unwrap_or o 0) (c.in-None.ensures.index ∙ numbered c.as_str.result.now c.self.inside.names.keys) ∙ cc

use Rattle.std.proofs.Common.{◌++◌, ◌∙◌, ap, drop, map, ◌+◌}
use Rattle.std.specs.Map.Iter.{deref}
use Rattle.system_gen.proofs.Lookups.{one_more}
use Rattle.system_gen.proofs.table.NameTable.new.Goals as goal

pub loop-name-preserved : goal.loop-name-preserved
loop-name-preserved c =
    let names = c.args.names.now in
    let next = drop (c.loop-name.name-index + 1) names in
    ap (λ keys. map deref keys ++ next) c.in_ok-insert.ensures.keys
    ∙ one_more names c.loop-name.set.keys c.as_str.result c.loop-name.name-index c.name-item.result c.loop-name-test.true c.as_str.ensures.value c.name-item.is c.requires c.loop-name.invariant

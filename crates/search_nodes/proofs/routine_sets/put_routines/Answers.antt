use Rattle.std.proofs.Common.{◌==◌}
use Rattle.std.specs.Int.{bit_at}
use Rattle.search_nodes.proofs.SetLemmas.{are_few, are_known}
use Rattle.search_nodes.proofs.routine_sets.put_routines.Goals as goal

pub returns-clause-known : goal.returns-clause-known
returns-clause-known c =
    are_known c.put_each.result (λ i. bit_at c.args.set i == 1) c.args.count
    c.put_each.new.routines.items c.put_each.ensures

pub returns-clause-few : goal.returns-clause-few
returns-clause-few c =
    are_few c.put_each.result (λ i. bit_at c.args.set i == 1) c.args.count _
    c.put_each.new.routines.items c.requires c.put_each.ensures

use Rattle.std.proofs.Common.{◌<◌, length, sym, subst}
use Rattle.std.specs.Prelude.{IfSome}
use Rattle.search.proofs.NumberLemmas.{first_below}
use Rattle.search.proofs.table.Table.first_open.Goals as goal

pub returns-clause-inside : goal.returns-clause-inside
returns-clause-inside g c =
    let nodes = c.args.self.now.nodes.items in
    subst (λ o. IfSome o (λ number. number < length nodes)) (sym c.first.ensures)
    (first_below (length nodes) c.args.self.now.agenda c.args.self.now.inside)

use Rattle.std.proofs.Common.{subst, sym}
use Rattle.cli_tables.specs.Promises.{Promises}
use Rattle.cli_tables.proofs.PromiseLemmas.{promised}
use Rattle.cli_tables.proofs.told.cell.Goals as goal

pub returns-clause-promises : goal.returns-clause-promises
returns-clause-promises c =
    λ S mode rules are.
    subst (Promises S mode rules c.args.found.now.bounds c.args.figure)
    (sym c.told_cell.ensures) (promised S mode rules c.args.found.now are c.args.figure)

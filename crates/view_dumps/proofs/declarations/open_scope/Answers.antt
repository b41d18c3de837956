use Rattle.std.specs.Prelude.{codes}
use Rattle.view_dumps.specs.Declarations.{scope_line}
use Rattle.view_dumps.proofs.DeclarationLemmas.{three}
use Rattle.view_dumps.proofs.declarations.open_scope.Goals as goal

pub returns-clause-same : goal.returns-clause-same
unfolding scope_line
returns-clause-same c =
    three c.args.text.now (codes "$scope module ") c.args.name.now (codes " $end\n") _ _ _ c.push_bytes.ensures.same (cc)
    c.push_bytes-3.ensures.same

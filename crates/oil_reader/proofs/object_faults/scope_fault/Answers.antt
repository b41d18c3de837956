use Rattle.oil_reader.specs.Trees.{settings_of}
use Rattle.oil_reader.proofs.Listed.{first_of_scope}
use Rattle.oil_reader.proofs.object_faults.scope_fault.Goals as goal

pub returns : goal.returns
returns c = rw c.in_ok-found.ensures (first_of_scope c.args.allowed.now (settings_of c.args.settings.now) c.args.close)

use Rattle.oil_reader.proofs.Scopes.{settings_end}
use Rattle.oil_reader.proofs.object_faults.scope_fault_listed.Goals as goal

pub loop-attribute-init : goal.loop-attribute-init
loop-attribute-init c = settings_end c.args.allowed.now c.args.settings.now c.args.close c.in_ok-found.found c.in_ok-found.ensures

use Rattle.services.proofs.StandsLemmas.{fit_where_stands}
use Rattle.services.proofs.os_core.Core.executor.Goals as goal

pub executor-requires : goal.executor-requires
executor-requires g c = fit_where_stands c.self.inside.objects c.self.invariant.stands

use Rattle.std.proofs.Common.{◌<◌, sym, subst}
use Rattle.ready_queues.specs.declared.ready_queues.TheConstants.{LEVELS}
use Rattle.services.proofs.BoundLemmas.{priority_low}
use Rattle.services.proofs.objects.Objects.level_of.Goals as goal

pub returns-clause-low : goal.returns-clause-low
returns-clause-low g c =
    subst (λ p. p < LEVELS) (sym c.priority_of.ensures) (priority_low c.self.inside.system.now c.args.task c.self.invariant.bounds)

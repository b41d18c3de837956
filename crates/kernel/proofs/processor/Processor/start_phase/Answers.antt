use Rattle.kernel.proofs.DoesLemmas.{started_by_objects}
use Rattle.kernel.proofs.processor.Processor.start_phase.Goals as goal

pub returns : goal.returns
returns g c =
    started_by_objects c.args.self.now c.self.inside.core c.start_routine.new.self c.self.inside.windows
    c.self.view_is c.start_routine.ensures.system c.start_routine.ensures.kept

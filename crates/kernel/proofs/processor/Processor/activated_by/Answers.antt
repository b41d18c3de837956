use Rattle.std.proofs.Common.{◌∙◌, sym, ap}
use Rattle.kernel.specs.Processor.{system_of}
use Rattle.kernel.proofs.BegunLemmas.{activates_is}
use Rattle.kernel.proofs.processor.Processor.activated_by.Goals as goal

pub returns-in-ActivateTask : goal.returns-in-ActivateTask
returns-in-ActivateTask g c =
    activates_is c.self.inside.system.now (system_of c.args.self.now) c.args.alarm c.in-ActivateTask.task c.self.invariant.proper
    (sym (ap system_of c.self.view_is) ∙ c.self.invariant.system) c.requires (sym c.action_of.ensures ∙ c.in-ActivateTask.is)

use Rattle.std.proofs.Common.{sym, ◌∙◌, ap}
use Rattle.osek_base.specs.declared.task.Action.{Action}
use Rattle.kernel.specs.Processor.{system_of}
use Rattle.kernel.proofs.BegunLemmas.{acted_on_is}
use Rattle.kernel.proofs.processor.Processor.acted_on.Goals as goal

pub returns-in-ActivateTask : goal.returns-in-ActivateTask
returns-in-ActivateTask g c =
    acted_on_is c.self.inside.system.now (system_of c.args.self.now) c.args.alarm (Action.ActivateTask c.in-ActivateTask.task) c.self.invariant.proper
    (sym (ap system_of c.self.view_is) ∙ c.self.invariant.system) c.requires (sym c.action_of.ensures ∙ c.in-ActivateTask.is)

pub returns-in-SetEvent : goal.returns-in-SetEvent
returns-in-SetEvent g c =
    acted_on_is c.self.inside.system.now (system_of c.args.self.now) c.args.alarm (Action.SetEvent c.in-SetEvent.task c.in-SetEvent.field-1)
    c.self.invariant.proper (sym (ap system_of c.self.view_is) ∙ c.self.invariant.system) c.requires (sym c.action_of.ensures ∙ c.in-SetEvent.is)

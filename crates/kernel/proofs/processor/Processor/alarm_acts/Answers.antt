use Rattle.std.proofs.Common.{◌∙◌, sym}
use Rattle.osek_base.specs.declared.task.Action.{Action}
use Rattle.kernel.proofs.ActLemmas.{acts_by}
use Rattle.kernel.proofs.processor.Processor.alarm_acts.Goals as goal

pub returns-in-ActivateTask : goal.returns-in-ActivateTask
returns-in-ActivateTask g c =
    let k = c.self.inside in
    let r = c.activate-status in
    acts_by k.system.now c.args.alarm (Action.ActivateTask c.in-ActivateTask.task) c.args.self.now k.core r.new.self k.windows r.result
    c.args.records.now c.record_error.new.records c.self.view_is c.self.invariant.system (sym c.action_of.ensures ∙ c.in-ActivateTask.is)
    r.ensures.system r.ensures.kept r.ensures.status c.record_error.ensures

pub returns-in-SetEvent : goal.returns-in-SetEvent
returns-in-SetEvent g c =
    let k = c.self.inside in
    let r = c.set_event-status in
    acts_by k.system.now c.args.alarm (Action.SetEvent c.in-SetEvent.task c.in-SetEvent.mask) c.args.self.now k.core r.new.self k.windows r.result
    c.args.records.now c.record_error-in-SetEvent.new.records c.self.view_is c.self.invariant.system (sym c.action_of.ensures ∙ c.in-SetEvent.is)
    r.ensures.system r.ensures.kept r.ensures.status c.record_error-in-SetEvent.ensures

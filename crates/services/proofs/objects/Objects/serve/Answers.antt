use Rattle.std.proofs.Common.{◌∙◌, ℕ, Option, ap, sym, subst}
use Rattle.osek_base.specs.declared.instr.Service.{Service}
use Rattle.osek_base.specs.Types.{ServiceCall}
use Rattle.services.specs.Steps.{Replies, answer_of}
use Rattle.services.proofs.StepLemmas.{activation_replied, setting_replied}
use Rattle.services.proofs.objects.Objects.serve.Goals as goal

pub returns-in-Some : goal.returns-in-Some
returns-in-Some g c =
    subst (λ (call : ServiceCall). Replies call c.args.self.now c.activate.new.self (answer_of c.activate.result c.args.results.now))
    (sym (c.in-ActivateTask.is ∙ ap (λ (t : Option ℕ). Service.ActivateTask t) c.in-Some.is))
    (activation_replied c.args.self.now c.activate.new.self c.in-Some.task c.activate.result (answer_of c.activate.result c.args.results.now) c.activate.ensures
    (ap (answer_of c.activate.result) c.requires.none))

pub returns-in-Some-task-2 : goal.returns-in-Some-task-2
returns-in-Some-task-2 g c =
    subst (λ (call : ServiceCall). Replies call c.args.self.now c.set_event.new.self (answer_of c.set_event.result c.args.results.now))
    (sym (c.in-SetEvent.is ∙ ap (λ (t : Option ℕ). Service.SetEvent t c.in-SetEvent.mask) c.in-Some-task-2.is))
    (setting_replied c.args.self.now c.set_event.new.self c.in-Some-task-2.task c.in-SetEvent.mask c.set_event.result
    (answer_of c.set_event.result c.args.results.now) c.set_event.ensures (ap (answer_of c.set_event.result) c.requires.none))

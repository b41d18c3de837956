use Rattle.std.proofs.Common.{◌∙◌, sym}
use Rattle.services.specs.Objects.{kept_in}
use Rattle.services.proofs.BoundLemmas.{highest_of, contender_room}
use Rattle.services.proofs.objects.Objects.reschedule.Goals as goal

pub dispatch-requires-clause-highest : goal.dispatch-requires-clause-highest
dispatch-requires-clause-highest g c =
    highest_of c.args.self.now.system (kept_in c.args.self.now) c.in-Some-highest.level c.requires.fit (sym c.highest-highest.ensures ∙ c.in-Some-highest.is)

pub preempt-requires-clause-highest : goal.preempt-requires-clause-highest
preempt-requires-clause-highest g c =
    highest_of c.args.self.now.system (kept_in c.args.self.now) c.in-Some-highest-2.level c.requires.fit (sym c.highest-highest.ensures ∙ c.in-Some-highest-2.is)

pub preempt-requires-clause-free : goal.preempt-requires-clause-free
preempt-requires-clause-free g c =
    contender_room c.args.self.now.system (kept_in c.args.self.now) c.requires.fit c.in-Some.task (sym c.requires.runner ∙ c.in-Some.is)

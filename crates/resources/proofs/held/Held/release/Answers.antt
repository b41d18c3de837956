use Rattle.std.proofs.Common.{◌∙◌, ap, if◌then◌else◌}
use Rattle.osek_base.specs.Lists.{without_last}
use Rattle.resources.proofs.HeldLemmas.{once-release, without_last-take}
use Rattle.resources.proofs.held.Held.release.Goals as goal

pub invariant_of-self : goal.invariant_of-self
invariant_of-self c = rw (c.pop.ensures.rest, without_last-take) (once-release _ c.self.invariant)

pub returns-clause-held : goal.returns-clause-held
returns-clause-held c =
    c.pop.ensures.rest ∙ without_last-take _ ∙ ap without_last c.self.view_is
    ∙ ap (λ b. if b then without_last c.args.self.now else c.args.self.now) (c.if-not-is_last.ensures)

use Rattle.std.proofs.Common.{subst, sym}
use Rattle.std.specs.List.{All}
use Rattle.search_bounds.specs.Held.{IsOf}
use Rattle.search_bounds.proofs.HeldLemmas.{push_in}
use Rattle.search_bounds.proofs.bases.Bases.add.Goals as goal

pub invariant_of-self : goal.invariant_of-self
invariant_of-self c =
    subst (All (λ h. IsOf c.self.inside.system.now h.machine)) (sym c.in_err-push.ensures.items)
    c.self.invariant

pub invariant_of-self-2 : goal.invariant_of-self-2
invariant_of-self-2 c =
    push_in c.self.inside.system.now c.self.inside.held.items c.push.new.self.items c.args.base
    c.in_ok-push.ensures.items
    (subst (λ S. IsOf S c.args.base.machine) (sym c.self.view_is) c.requires)
    c.self.invariant

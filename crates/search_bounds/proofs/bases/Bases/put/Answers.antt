use Rattle.std.proofs.Common.{sym}
use Rattle.search_bounds.proofs.HeldLemmas.{became, set_in}
use Rattle.search_bounds.proofs.bases.Bases.put.Goals as goal

pub invariant_of-self : goal.invariant_of-self
invariant_of-self c =
    set_in c.self.inside.system.now c.self.inside.held.items c.args.place c.become_other.new.self
    (became c.args.self.now c.self.inside.system.now c.become_other.new.self c.args.machine.now
    (sym c.self.view_is) c.become_other.ensures c.requires)
    c.self.invariant

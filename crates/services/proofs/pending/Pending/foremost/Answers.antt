use Rattle.std.proofs.Common.{Bool, List, false, slice_index_or, length, sym, subst}
use Rattle.std.specs.Prelude.{None}
use Rattle.osek_base.specs.Lists.{below}
use Rattle.osek_base.specs.System.{routine}
use Rattle.services.specs.Pending.{IsForemost}
use Rattle.services.proofs.RoutineLemmas.{foremost_nowhere}
use Rattle.services.proofs.pending.Pending.foremost.Goals as goal

pub returns-then-not-self : goal.returns-then-not-self
returns-then-not-self c =
    let S = c.args.system.now in
    let flags = c.self.inside.flags.items in
    let nowhere = foremost_nowhere (λ i. slice_index_or flags i false) (λ i. (routine S i).priority)
    (c.self.invariant c.if-not-self.true) (below (length S.routines)) in
    subst (λ (fs : List Bool). IsForemost S fs None) c.self.view_is (record { choice = sym nowhere; known = tt })

use Rattle.std.proofs.Common.{◌+◌, ◌-◌, ◌^◌, ◌<◌, ◌≡◌, map, sym, ◌∙◌, subst, arith}
use Rattle.view_figures.specs.Counting.{resource_figures_of}
use Rattle.seen_ticks.specs.Seen.{numbered}
use Rattle.view_figures.specs.FigureSums.{holder_tick}
use Rattle.view_figures.specs.Calm.{held_on}
use Rattle.view_figures.proofs.HoldLemmas.{can_get, can_go}
use Rattle.view_figures.proofs.HeldRows.{not_free, row_held}
use Rattle.view_figures.proofs.QuietLemmas.{free_resource}
use Rattle.view_figures.proofs.RowLemmas.{row_settles}
use Rattle.view_figures.proofs.kinds.ResourceFiguresCounted.observe_some.Goals as goal

-- nobody holds it
pub returns-then-is_free-clause-counted : goal.returns-then-is_free-clause-counted
returns-then-is_free-clause-counted c = λ before e.
    let o = c.args.scene.now.observation.now in
    let k = c.args.number in
    let ticks = map (λ p. holder_tick p k) in
    let free = sym c.is_free.ensures ∙ c.if-is_free.true in
    let old = c.args.self.now in
    let new = c.pass.new.self in
    row_settles (resource_figures_of k) o c.args.first c.args.count before new c.requires.some
    (free_resource (numbered c.args.first o) k (ticks before) old _ free c.pass.ensures e)
    (λ t seen same. free_resource (numbered t o) k (ticks seen) new _ free (cc) same)

-- a hold begins, and is as long at each tick as it is then
pub returns-then-not-has_before-clause-counted : goal.returns-then-not-has_before-clause-counted
returns-then-not-has_before-clause-counted c = λ before e.
    let o = c.args.scene.now.observation.now in
    let k = c.args.number in
    let old = c.args.self.now in
    let tick = holder_tick (numbered c.args.first o) k in
    let more = c.args.count - 1 in
    let short : more < 2 ^ 32 - 1 = omega (arith, c.requires.some, c.ranges.count.fits) in
    let some = not_free o k (sym c.is_free.ensures ∙ c.if-is_free.false) in
    let other = rw c.held_tick-tick.ensures at (sym c.has_before.ensures ∙ c.if-not-has_before.true) in
    let held : c.get.new.self ≡ held_on tick more old =
    subst (λ t. c.get.new.self ≡ held_on t more old) c.held_tick-tick.ensures c.get.ensures in
    held ∙ row_held o k c.args.first c.args.count before old c.requires.some c.ranges.count.fits
    (can_get tick more old some other short) e

-- one goes on
pub returns-then-self-count-clause-counted : goal.returns-then-self-count-clause-counted
returns-then-self-count-clause-counted c = λ before e.
    let o = c.args.scene.now.observation.now in
    let k = c.args.number in
    let old = c.args.self.now in
    let tick = holder_tick (numbered c.args.first o) k in
    let more = c.args.count - 1 in
    let same = rw c.held_tick-tick.ensures at (sym c.has_before.ensures ∙ c.if-not-has_before.false) in
    let room : old.held + more < 2 ^ 32 - 1 = omega (arith, c.requires.some, c.ranges.count.fits, c.if-self-count.true) in
    let held : c.go_on.new.self ≡ held_on tick more old =
    subst (λ t. c.go_on.new.self ≡ held_on t more old) c.held_tick-tick.ensures c.go_on.ensures in
    held ∙ row_held o k c.args.first c.args.count before old c.requires.some c.ranges.count.fits
    (can_go tick more old same room) e

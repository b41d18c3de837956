use Rattle.std.proofs.Common.{◌≡◌, ◌∙◌, ap, arith}
use Rattle.osek_base.specs.declared.limits.TheConstants.{MAX_EVENTS}
use Rattle.law_nodes.specs.Shown.{choices, subsets}
use Rattle.analysis_nodes.proofs.showing.subsets.Goals as goal

pub returns : goal.returns
unfolding subsets
returns c =
    let low = c.loop-event-test.false in
    let high = c.loop-event.auto.event-end in
    let end : c.loop-event.event ≡ MAX_EVENTS = omega (arith, low, high) in
    c.loop-event.invariant ∙ ap (choices c.args.mask) end

use Rattle.std.proofs.Common.{ℕ, ◌≡◌, ◌||◌, nat_le, not, true}
use Rattle.osek_base.specs.declared.limits.TheConstants.{MAX_EVENTS}
use Rattle.law_nodes.specs.Early.{is_set}
use Rattle.analysis_bounds.specs.Levels.{by_event}
use Rattle.analysis_bounds.proofs.NumberLemmas.{up_to}
use Rattle.analysis_bounds.proofs.SumLemmas.{all_below}
use Rattle.analysis_bounds.proofs.events.cost_each.Goals as goal

pub returns : goal.returns
returns c h =
    let test = λ (b : ℕ). not (is_set c.args.mask b)
    || nat_le c.args.least (by_event c.args.list.now c.args.task b) in
    all_below test MAX_EVENTS
    (up_to (λ b. test b ≡ true) c.loop-event.event MAX_EVENTS c.loop-event.invariant
    c.loop-event-test.false)

use Rattle.std.proofs.Common.{ℕ, ◌≡◌, nat_le, true}
use Rattle.osek_base.specs.declared.limits.TheConstants.{MAX_EVENTS}
use Rattle.analysis_bounds.specs.Levels.{by_event}
use Rattle.analysis_bounds.proofs.NumberLemmas.{up_to}
use Rattle.analysis_bounds.proofs.SumLemmas.{all_below}
use Rattle.analysis_bounds.proofs.events.task_pays.Goals as goal

pub returns : goal.returns
returns c h =
    let test = λ (b : ℕ). nat_le (by_event c.args.level.now.holds.items c.args.task b)
    (by_event c.args.level.now.sets.items c.args.task b) in
    all_below test MAX_EVENTS
    (up_to (λ b. test b ≡ true) c.loop-event.event MAX_EVENTS c.loop-event.invariant
    c.loop-event-test.false)

use Rattle.std.proofs.Common.{◌≤◌, ◌≡◌, true, length, subst}
use Rattle.analysis_bounds.specs.Checks.{alarm_pays}
use Rattle.analysis_bounds.specs.Levels.{weights_of}
use Rattle.analysis_bounds.proofs.NumberLemmas.{up_to}
use Rattle.analysis_bounds.proofs.SumLemmas.{all_below}
use Rattle.analysis_bounds.proofs.prices.alarms_pay.Goals as goal

pub returns : goal.returns
returns c h =
    let test = alarm_pays c.args.system.now (weights_of c.args.level.now) in
    all_below test (length c.args.system.now.alarms)
    (up_to (λ a. test a ≡ true) c.loop-number.number (length c.args.system.now.alarms)
    c.loop-number.invariant
    (subst (λ k. k ≤ c.loop-number.number) c.alarm_count-number-end.ensures.value c.loop-number-test.false))

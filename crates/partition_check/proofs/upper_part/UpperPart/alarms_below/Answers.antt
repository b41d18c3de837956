use Rattle.std.proofs.Common.{◌+◌, ◌≤◌, arith}
use Rattle.std.proofs.Math.Facts.{Fits-below}
use Rattle.osek_base.specs.declared.limits.TheConstants.{MAX_ALARMS}
use Rattle.osek_base.specs.Upper.{is_upper_alarm}
use Rattle.partition_check.proofs.KeptSteps.{rank_low}
use Rattle.partition_check.proofs.upper_part.UpperPart.alarms_below.Goals as goal

pub overflow_add-rank : goal.overflow_add-rank
overflow_add-rank c =
    let low : c.loop-number.rank ≤ c.loop-number.number = rank_low (is_upper_alarm c.args.self.now.system c.args.self.now.p) c.loop-number.number c.loop-number.rank c.loop-number.invariant in
    let bound : c.loop-number.rank + 1 ≤ MAX_ALARMS = omega (arith, low, c.loop-number-test.true, c.requires) in
    Fits-below {n = MAX_ALARMS} tt bound

pub returns-clause-low : goal.returns-clause-low
returns-clause-low c =
    let low : c.loop-number.rank ≤ c.loop-number.number = rank_low (is_upper_alarm c.args.self.now.system c.args.self.now.p) c.loop-number.number c.loop-number.rank c.loop-number.invariant in
    omega (arith, low, c.loop-number.auto.number-end)

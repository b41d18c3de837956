use Rattle.std.proofs.Common.{◌+◌, ◌≤◌, arith}
use Rattle.std.proofs.Math.Facts.{Fits-below}
use Rattle.osek_base.specs.Agree.{is_upper_declared}
use Rattle.partition_check.proofs.KeptSteps.{rank_low}
use Rattle.partition_check.proofs.upper_part.UpperPart.resources_below.Goals as goal

pub overflow_add-rank : goal.overflow_add-rank
overflow_add-rank c =
    let low : c.loop-number.rank ≤ c.loop-number.number = rank_low (is_upper_declared c.args.self.now.system c.args.self.now.p) c.loop-number.number c.loop-number.rank c.loop-number.invariant in
    let bound : c.loop-number.rank + 1 ≤ 32 = omega (arith, low, c.loop-number-test.true, c.requires) in
    Fits-below {n = 32} tt bound

pub returns-clause-low : goal.returns-clause-low
returns-clause-low c =
    let low : c.loop-number.rank ≤ c.loop-number.number = rank_low (is_upper_declared c.args.self.now.system c.args.self.now.p) c.loop-number.number c.loop-number.rank c.loop-number.invariant in
    omega (arith, low, c.loop-number.auto.number-end)

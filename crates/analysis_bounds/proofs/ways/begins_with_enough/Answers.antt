use Rattle.std.proofs.Common.{◌+◌, ◌-◌, ◌≡◌, ◌≤◌, arith}
use Rattle.analysis_bounds.specs.Checks.{beside}
use Rattle.analysis_bounds.specs.Levels.{weights_of}
use Rattle.analysis_bounds.proofs.ways.begins_with_enough.Goals as goal

pub returns : goal.returns
returns c h lower =
    let some = c.in-Some-checked_sub.ensures in
    let low : c.in-Some.besides ≤ c.args.level.now.at_begin = some.0 in
    let left : c.in-Some-checked_sub.most ≡ c.args.level.now.at_begin - c.in-Some.besides =
    some.1 in
    let all : c.in-Some.besides
    ≡ beside c.args.node.now.owner c.args.system.now (weights_of c.args.level.now) =
    c.in-Some.ensures in (
      c.in-Some-checked_sub.most,
      omega (arith, low, left, all),
      c.ways_fit.ensures h,
    )

use Rattle.std.proofs.Common.{◌+◌, ◌≤◌, arith}
use Rattle.analysis_bounds.proofs.TickLemmas.{all_tried, one_tried}
use Rattle.analysis_bounds.proofs.known_ticks.with_each.Goals as goal

pub returns-then-gap-left-clause-short : goal.returns-then-gap-left-clause-short
returns-then-gap-left-clause-short c =
    let S = c.args.system.now in
    let rules = c.args.rules.now in
    let level = c.args.level.now in
    let timings = c.args.timings.now in
    let past = c.if-gap-left.true in
    let left = c.saturating_sub-left.ensures in
    let end = c.from.ensures in
    let far : c.args.end ≤ c.loop.tick + c.args.gap = omega (arith, past, left, end) in
    all_tried S rules level timings c.args.first c.args.gap c.args.end c.in_ok-now.now.most
    (c.loop.tick + c.args.gap)
    (one_tried S rules level timings c.args.first c.args.gap c.args.end c.loop.now.most
    c.in_ok-now.now.most c.loop.tick c.in_ok-now.ensures.more c.loop.invariant.1
    c.in_ok-now.ensures.short)
    far

pub loop-preserved : goal.loop-preserved
loop-preserved c =
    let before = c.loop.invariant.0 in
    let more = c.in_ok-now.ensures.more in (
      omega (arith, before, more),
      one_tried c.args.system.now c.args.rules.now c.args.level.now c.args.timings.now c.args.first
          c.args.gap c.args.end c.loop.now.most c.in_ok-now.now.most c.loop.tick more
          c.loop.invariant.1 c.in_ok-now.ensures.short,
    )

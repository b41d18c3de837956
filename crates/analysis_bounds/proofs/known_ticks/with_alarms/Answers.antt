use Rattle.std.proofs.Common.{arith}
use Rattle.analysis_bounds.proofs.TickLemmas.{one_alarm_more}
use Rattle.analysis_bounds.proofs.known_ticks.with_alarms.Goals as goal

pub loop-alarm-preserved : goal.loop-alarm-preserved
loop-alarm-preserved c =
    let before = c.loop-alarm.invariant.0 in
    let more = c.in_ok-now.ensures.more in (
      omega (arith, before, more),
      one_alarm_more c.args.system.now c.args.rules.now c.args.level.now c.args.timings.now
          c.loop-alarm.now.most c.in_ok-now.now.most c.args.end c.loop-alarm.alarm more
          c.loop-alarm.invariant.1 c.in_ok-now.ensures.short,
    )

use Rattle.std.proofs.Common.{arith}
use Rattle.view_timelines.proofs.AlikeLemmas.{one_more_drawn}
use Rattle.view_timelines.proofs.timeline.Timeline.draw_alike.Goals as goal

pub loop-tick-preserved : goal.loop-tick-preserved
loop-tick-preserved c =
    one_more_drawn c.args.system.now c.args.observation.now c.args.first c.loop-tick.tick c.args.end c.args.self.now _ c.draw.new.self
    c.requires (omega (arith, c.loop-tick.auto.tick)) (omega (arith, c.loop-tick-test.true)) c.loop-tick.invariant c.in_ok-draw.ensures

use Rattle.view_timelines.proofs.AlikeLemmas.{AreDrawnBelow}
use Rattle.view_timelines.proofs.timeline.Timeline.draw_alike.Given as goal

abbrev pub invariant-loop-tick : goal.invariant-loop-tick
invariant-loop-tick l = AreDrawnBelow l.system l.observation l.first l.tick l.initial.self l.self

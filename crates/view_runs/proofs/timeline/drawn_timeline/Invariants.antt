use Rattle.std.proofs.Common.{◌+◌, ◌-◌, min, false}
use Rattle.view_runs.proofs.DrawLemmas.{AreDrawn, told}
use Rattle.view_runs.proofs.TickLemmas.{Made}
use Rattle.view_runs.proofs.timeline.drawn_timeline.Given as goal

abbrev pub invariant-ticks : goal.invariant-ticks
invariant-ticks g l =
    Made false l.input.ticks l.initial.run l.run (AreDrawn l.system (told l.initial.run) l.from (min l.input.ticks (l.from + 5000)) l.timeline)

abbrev pub decreases-ticks : goal.decreases-ticks
decreases-ticks g l = l.input.ticks - l.run.ticks

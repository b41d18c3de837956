use Rattle.view_figures.specs.FigureSums.{levels_of}
use Rattle.search_witnesses.proofs.Watching.{begun}
use Rattle.search_witnesses.proofs.running.watch_ticks.Goals as goal

pub loop-tick-init : goal.loop-tick-init
loop-tick-init c =
    begun c.args.run.now c.args.number c.new-watched.result c.requires.begun
    (c.new-watched.ensures (levels_of c.args.run.now.system) c.args.number)

pub loop-tick-preserved : goal.loop-tick-preserved
loop-tick-preserved c =
    c.see_tick.ensures c.if-not-see_tick.false c.args.run.now c.loop-tick._tick c.requires.of
    c.loop-tick.invariant

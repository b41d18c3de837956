use Rattle.std.proofs.Common.{rules}
use Rattle.view_figures.proofs.RowLemmas.{below_more, below_all}
use Rattle.view_figures.proofs.counted.observe_list.Goals as goal

-- one thing more
pub loop-number-preserved : goal.loop-number-preserved
loop-number-preserved g c =
    let scene = c.args.scene.now in
    let at = c.loop-number in
    below_more at.number (g.F.Counted.figures scene.levels.now) scene.observation.now c.args.first
    c.args.count c.args.figures.now at.figures _ c.observe_all.new.figures at.invariant
    (search rules) c.observe_all.ensures

-- all of them
pub returns : goal.returns
returns g c =
    let scene = c.args.scene.now in
    let at = c.loop-number in
    below_all at.number (g.F.Counted.figures scene.levels.now) scene.observation.now c.args.first
    c.args.count c.args.figures.now at.figures at.invariant (search rules)

use Rattle.std.proofs.Common.{arith}
use Rattle.view_figures.proofs.RowLemmas.{counts_more}
use Rattle.view_figures.proofs.counted.observe_rows.Goals as goal

-- those that are counted at once
pub loop-passed-preserved : goal.loop-passed-preserved
loop-passed-preserved g c =
    let at = c.loop-passed in
    let some = c.observe_some-passed in
    let few = some.ensures.few in
    let low = at.invariant.0 in
    let sum = g.F.Counted.figures c.args.scene.now.levels.now c.args.number in (
      omega (arith, few, low),
      counts_more sum c.args.scene.now.observation.now c.args.first at.passed some.result
          c.args.figures.now at.figures some.new.self at.invariant.1 some.ensures.counted,
    )

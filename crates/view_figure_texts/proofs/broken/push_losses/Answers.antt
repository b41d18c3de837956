use Rattle.std.specs.Prelude.{codes}
use Rattle.view_figures.specs.declared.routine_figures.RoutineFigures.{RoutineFigures}
use Rattle.view_measures.specs.declared.kind.Kind.{Kind}
use Rattle.view_figure_texts.specs.Limits.{first_line_of}
use Rattle.view_figure_texts.proofs.LineLemmas.{as_told, one_more}
use Rattle.view_figure_texts.proofs.broken.push_losses.Goals as goal

pub loop-number-preserved : goal.loop-number-preserved
loop-number-preserved c =
    let line = first_line_of c.args.system.now Kind.Routine (codes "loss") (λ (r : RoutineFigures). r.first_loss) c.args.figures.now.routines in
    one_more line c.loop-number.number _ _ _ c.loop-number.invariant
    (as_told (codes "loss") _ _ _ _ _ _ c.name-name.ensures c.first_loss-first.ensures c.in_ok-push_first.ensures)

use Rattle.view_figure_texts.specs.Csv.{object_lines}
use Rattle.view_figure_texts.proofs.LineLemmas.{one_more}
use Rattle.view_figure_texts.proofs.csv_text.push_section.Goals as goal

pub loop-number-preserved : goal.loop-number-preserved
loop-number-preserved c =
    one_more (object_lines c.args.system.now c.args.figures.now c.args.section) c.loop-number.number _ _ _ c.loop-number.invariant
    c.in_ok-push_object.ensures

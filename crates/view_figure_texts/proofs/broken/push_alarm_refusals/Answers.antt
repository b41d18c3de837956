use Rattle.std.specs.Prelude.{codes}
use Rattle.view_figures.specs.declared.alarm_figures.AlarmFigures.{AlarmFigures}
use Rattle.view_measures.specs.declared.kind.Kind.{Kind}
use Rattle.view_figure_texts.specs.Limits.{first_line_of}
use Rattle.view_figure_texts.proofs.LineLemmas.{as_told, one_more}
use Rattle.view_figure_texts.proofs.broken.push_alarm_refusals.Goals as goal

pub loop-number-preserved : goal.loop-number-preserved
loop-number-preserved c =
    let line = first_line_of c.args.system.now Kind.Alarm (codes "refusal") (λ (a : AlarmFigures). a.first_refusal) c.args.figures.now.alarms in
    one_more line c.loop-number.number _ _ _ c.loop-number.invariant
    (as_told (codes "refusal") _ _ _ _ _ _ c.name-name.ensures c.first_alarm_refusal-first.ensures c.in_ok-push_first.ensures)

use Rattle.std.proofs.Common.{◌≡◌, ◌++◌}
use Rattle.std.specs.Prelude.{codes}
use Rattle.std.specs.List.{flat_map}
use Rattle.std.specs.String.{string_bytes}
use Rattle.osek_base.specs.Lists.{below}
use Rattle.view_figures.specs.declared.alarm_figures.AlarmFigures.{AlarmFigures}
use Rattle.view_measures.specs.declared.kind.Kind.{Kind}
use Rattle.view_figure_texts.specs.Limits.{first_line_of}
use Rattle.view_figure_texts.proofs.broken.push_alarm_refusals.Given as goal

abbrev pub invariant-loop-number : goal.invariant-loop-number
invariant-loop-number l =
    string_bytes l.lines
    ≡ string_bytes l.fn.lines
    ++ flat_map (first_line_of l.system Kind.Alarm (codes "refusal") (λ (a : AlarmFigures). a.first_refusal) l.figures.alarms) (below l.number)

use Rattle.std.proofs.Common.{◌≡◌, ◌++◌}
use Rattle.std.specs.List.{flat_map}
use Rattle.std.specs.String.{string_bytes}
use Rattle.osek_base.specs.Lists.{below}
use Rattle.view_figure_texts.specs.Csv.{object_lines}
use Rattle.view_figure_texts.proofs.csv_text.push_section.Given as goal

abbrev pub invariant-loop-number : goal.invariant-loop-number
invariant-loop-number l =
    string_bytes l.text
    ≡ string_bytes l.fn.text ++ flat_map (object_lines l.system l.figures l.section) (below l.number)

use Rattle.std.proofs.Common.{◌≡◌, ◌++◌, drop}
use Rattle.std.specs.List.{flat_map}
use Rattle.std.specs.String.{string_bytes}
use Rattle.view_figure_texts.specs.Csv.{section_lines}
use Rattle.view_figure_texts.specs.Sections.{sections}
use Rattle.view_figure_texts.proofs.csv_text.push_sections.Given as goal

abbrev pub invariant-loop-section : goal.invariant-loop-section
invariant-loop-section l =
    string_bytes l.text ++ flat_map (section_lines l.system l.figures) (drop l.section-index sections)
    ≡ string_bytes l.fn.text ++ flat_map (section_lines l.system l.figures) sections

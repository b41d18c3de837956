use Rattle.std.proofs.Common.{◌≡◌, ◌++◌, drop}
use Rattle.std.specs.List.{flat_map}
use Rattle.std.specs.String.{string_bytes}
use Rattle.view_figure_texts.specs.Limits.{limit_lines}
use Rattle.view_figure_texts.proofs.broken.push_limits.Given as goal

abbrev pub invariant-loop-limit : goal.invariant-loop-limit
invariant-loop-limit l =
    string_bytes l.lines ++ flat_map (limit_lines l.system l.figures) (drop l.limit-index l.limits)
    ≡ string_bytes l.fn.lines ++ flat_map (limit_lines l.system l.figures) l.limits

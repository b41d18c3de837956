use Rattle.std.proofs.Common.{◌≡◌, drop}
use Rattle.std.specs.List.{find}
use Rattle.std.specs.Option.{option_map}
use Rattle.view_figure_texts.specs.Tables.{measure_of, is_asked}
use Rattle.view_figure_texts.proofs.measure_words.measure_of.Given as goal

-- the first of what is left is the first of all
abbrev pub invariant-loop-measure : goal.invariant-loop-measure
invariant-loop-measure l =
    find (is_asked (option_map (λ w. w.now) l.word)) (drop l.measure-index l.measure-items)
    ≡ measure_of l.fn.kind (option_map (λ w. w.now) l.word)

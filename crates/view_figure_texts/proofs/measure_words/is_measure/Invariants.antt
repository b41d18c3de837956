use Rattle.std.proofs.Common.{◌≡◌, drop}
use Rattle.std.specs.Prelude.{Some, is_some}
use Rattle.std.specs.List.{list_any}
use Rattle.view_figure_texts.specs.Tables.{measure_of, is_measure}
use Rattle.view_measures.specs.Kinds.{kinds}
use Rattle.view_figure_texts.proofs.measure_words.is_measure.Given as goal

-- a kind that is left has the measure where any has
abbrev pub invariant-loop-kind : goal.invariant-loop-kind
invariant-loop-kind l =
    list_any (λ kind. is_some (measure_of kind (Some l.word))) (drop l.kind-index kinds) ≡ is_measure l.word

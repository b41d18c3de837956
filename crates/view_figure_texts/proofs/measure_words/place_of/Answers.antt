use Rattle.std.proofs.Common.{◌∙◌}
use Rattle.view_figure_texts.proofs.PlaceLemmas.{place_read}
use Rattle.view_figure_texts.proofs.measure_words.place_of.Goals as goal

pub returns : goal.returns
returns c = c.ok.ensures.value ∙ place_read c.args.word.now c.parse.result c.parse.ensures.value.0

use Rattle.std.proofs.Common.{◌<◌, sym, subst}
use Rattle.view_measures.specs.Measures.{figure}
use Rattle.search_peaks.proofs.PeakLemmas.{no_higher, raised}
use Rattle.search_peaks.proofs.numbers.raise.Goals as goal

pub returns-then-numbers-index : goal.returns-then-numbers-index
returns-then-numbers-index c =
    no_higher (figure c.args.measure c.args.number) c.args.numbers.now c.index_of-index.result
    c.requires.things c.index_of-index.ensures.value c.in-Some.shown c.args.shown c.in-Some.is
    c.if-numbers-index.true

pub returns : goal.returns
returns c =
    raised (figure c.args.measure c.args.number) c.args.numbers.now c.index_of-index.result
    c.requires.things c.index_of-index.ensures.value c.in-Some.shown c.args.shown c.in-Some.is
    (subst (λ n. c.index_of-index.result < n) (sym c.requires.places) c.index_of-index.ensures.low)
    c.if-numbers-index.false

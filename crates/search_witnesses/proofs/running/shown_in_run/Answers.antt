use Rattle.std.proofs.Common.{◌∙◌, arith, sym}
use Rattle.search_witnesses.proofs.Watching.{begun_shows}
use Rattle.search_witnesses.proofs.running.shown_in_run.Goals as goal

pub returns : goal.returns
returns c =
    begun_shows c.args.system.now c.args.mode c.args.arrivals c.in-Some-watch_until.done
    c.args.figure c.in_ok-run.field-0 c.in-Some.run' c.in-Some-watch_until.watched c.shown.result
    c.shows_proper.ensures (omega (arith, c.if-prove.false))
    (sym c.is_of.ensures ∙ c.if-not-is_of.false) c.in_ok-run.ensures c.in-Some.is
    c.in-Some-watch_until.ensures c.shown.ensures

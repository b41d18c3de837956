use Rattle.std.proofs.Common.{◌+◌, arith, subst}
use Rattle.search_witnesses.specs.Running.{IsWatched}
use Rattle.search_witnesses.proofs.Watching.{goes_on}
use Rattle.search_witnesses.proofs.running.go_on_until.Goals as goal

pub loop-more-preserved : goal.loop-more-preserved
loop-more-preserved c first n of is =
    let more = c.loop-more.more in
    goes_on first c.loop-more.run c.see_tick.new.run n more c.args.figure.number
    c.loop-more.watched c.see_tick.new.watched (c.loop-more.invariant first n of is)
    (c.see_tick.ensures c.if-not-see_tick.false first (n + more) of)

pub returns : goal.returns
returns c first n of is =
    subst
    (λ m. IsWatched first c.loop-more.run (n + m) c.args.figure.number c.loop-more.watched)
    (omega (arith, c.loop-more-test.false, c.loop-more.auto.more-end))
    (c.loop-more.invariant first n of is)

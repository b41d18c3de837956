use Rattle.search_packed.proofs.FreeLemmas.{is_away, no_more, none_beyond, others_stay}
use Rattle.search_packed.proofs.free.without.Goals as goal

pub returns-then-routine-ge64-clause-away : goal.returns-then-routine-ge64-clause-away
returns-then-routine-ge64-clause-away c =
    none_beyond c.args.set c.args.routine c.ranges.set.fits c.if-routine-ge64.true

pub returns-clause-less : goal.returns-clause-less
returns-clause-less c = no_more c.args.set c.args.routine c.ranges.set.fits

pub returns-clause-away : goal.returns-clause-away
returns-clause-away c =
    is_away c.args.set c.args.routine c.ranges.set.fits c.if-routine-ge64.false

pub returns-clause-others : goal.returns-clause-others
returns-clause-others c =
    others_stay c.args.set c.args.routine c.ranges.set.fits c.if-routine-ge64.false

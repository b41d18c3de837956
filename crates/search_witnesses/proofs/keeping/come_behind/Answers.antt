use Rattle.std.proofs.Common.{◌∙◌, arith}
use Rattle.std.proofs.lemmas.Bool.{ne_eqb}
use Rattle.search_witnesses.proofs.Ordered.{first_late, other_routine}
use Rattle.search_witnesses.proofs.keeping.come_behind.Goals as goal

pub returns-then-tick-from : goal.returns-then-tick-from
returns-then-tick-from c =
    first_late c.args.routine c.args.tick c.args.later.now c.loop-arrival.arrival-index
    c.arrival-item.result c.loop-arrival.invariant c.loop-arrival-test.true c.arrival-item.is
    (let most = c.if-tick-from.true in let is = c.from.ensures in omega (arith, most, is))

pub loop-arrival-preserved : goal.loop-arrival-preserved
loop-arrival-preserved c =
    other_routine c.args.routine c.args.tick c.args.later.now c.loop-arrival.arrival-index
    c.arrival-item.result c.loop-arrival.invariant c.loop-arrival-test.true c.arrival-item.is
    (ne_eqb c.arrival-item.result.routine c.args.routine
    (λ same. c.if-routine_of-routine.false (c.routine_of.ensures ∙ same)))

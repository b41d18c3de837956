use Rattle.kernel.proofs.ArrivalLemmas.{arrived_at_end, arrived_until, taken_more}
use Rattle.kernel.proofs.kernel.arrived_by.Goals as goal

pub loop-next-preserved : goal.loop-next-preserved
loop-next-preserved c =
    taken_more c.args.list.now c.args.tick c.args.arrived c.loop-next.next c.index-list-next.result c.loop-next.invariant c.loop-next-test.true
    c.index-list-next.is c.if-list-next.true

pub returns-else-list-next : goal.returns-else-list-next
returns-else-list-next c =
    arrived_until c.args.list.now c.args.tick c.args.arrived c.loop-next.next c.index-list-next.result c.loop-next.invariant c.loop-next-test.true
    c.index-list-next.is c.if-list-next.false

pub returns-after-loop-next : goal.returns-after-loop-next
returns-after-loop-next c =
    arrived_at_end c.args.list.now c.args.tick c.args.arrived c.loop-next.next c.loop-next.invariant c.loop-next-test.false

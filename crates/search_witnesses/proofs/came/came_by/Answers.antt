use Rattle.kernel.proofs.ArrivalLemmas.{arrived_at_end, arrived_until, taken_more}
use Rattle.search_witnesses.proofs.came.came_by.Goals as goal

pub loop-next-preserved : goal.loop-next-preserved
loop-next-preserved c =
    taken_more c.args.list.now c.args.tick c.args.came c.loop-next.next c.index-list-next.result
    c.loop-next.invariant c.loop-next-test.true c.index-list-next.is c.if-list-next.true

pub returns-else-list-next-clause-these : goal.returns-else-list-next-clause-these
returns-else-list-next-clause-these c =
    (arrived_until c.args.list.now c.args.tick c.args.came c.loop-next.next
    c.index-list-next.result c.loop-next.invariant c.loop-next-test.true c.index-list-next.is
    c.if-list-next.false).these

pub returns-after-loop-next-clause-these : goal.returns-after-loop-next-clause-these
returns-after-loop-next-clause-these c =
    (arrived_at_end c.args.list.now c.args.tick c.args.came c.loop-next.next
    c.loop-next.invariant c.loop-next-test.false).these

use Rattle.kernel.proofs.ArrivalLemmas.{arrived_at_end, arrived_until, taken_none}
use Rattle.kernel.proofs.kernel.next_arrival.Goals as goal

pub returns-then-arrived-list : goal.returns-then-arrived-list
returns-then-arrived-list c = λ tick other left.
    let list = c.args.list.now in
    arrived_until list tick c.args.arrived c.args.arrived c.index-list-arrived.result (taken_none list tick c.args.arrived left)
    c.if-arrived-list.true c.index-list-arrived.is other

pub returns-else-arrived-list : goal.returns-else-arrived-list
returns-else-arrived-list c = λ tick other left.
    let list = c.args.list.now in
    arrived_at_end list tick c.args.arrived c.args.arrived (taken_none list tick c.args.arrived left) c.if-arrived-list.false

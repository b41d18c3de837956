use Rattle.std.proofs.Common.{arith}
use Rattle.kernel.proofs.ArrivalLemmas.{free_until}
use Rattle.kernel.proofs.kernel.ticks_before.Goals as goal

pub returns-then-arrived-list : goal.returns-then-arrived-list
returns-then-arrived-list c =
    free_until c.args.list.now c.args.arrived c.args.tick c.requires c.index-list-arrived.result c.if-arrived-list.true c.index-list-arrived.is
    c.args.most c.min.result (grind (arith, c.min.ensures)) (grind (arith, c.min.ensures))

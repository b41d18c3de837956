use Rattle.std.proofs.Common.{arith}
use Rattle.view_runs.proofs.TickLemmas.{some_alike}
use Rattle.view_runs.proofs.ticks.pass_alike.Goals as goal

pub returns-clause-some : goal.returns-clause-some
returns-clause-some g c =
    some_alike g.B.Blockers.are_counted c.args.ticks c.pass_alike.result c.ticks_done-first.result c.args.run.now c.pass_alike.new.self
    (omega (arith, c.if-pass_alike-eq0.false)) c.requires c.ticks_done-first.ensures c.pass_alike.ensures

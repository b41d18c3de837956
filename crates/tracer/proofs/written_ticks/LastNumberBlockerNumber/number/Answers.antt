use Rattle.tracer.proofs.TickLines.{number_told}
use Rattle.tracer.proofs.written_ticks.LastNumberBlockerNumber.number.Goals as goal

pub returns : goal.returns
returns g c = number_told g.B.Blockers.are_counted c.args.self.now.kernel.now c.blockers.result c.blockers.ensures

use Rattle.std.proofs.Common.{arith}
use Rattle.alarms.proofs.TableLemmas.{one_raised}
use Rattle.alarms.proofs.due_alarms.DueAlarms.raise.Goals as goal

pub returns : goal.returns
returns c = λ a.
    rw (← c.self.view_is, c.number.ensures.is)
    (one_raised c.self.inside.word c.args.alarm a (omega (arith, c.number.ensures.low, c.number.ensures.is)))

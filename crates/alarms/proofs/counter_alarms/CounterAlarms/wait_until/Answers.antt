use Rattle.std.proofs.Common.{◌+◌, ◌/◌, arith}
use Rattle.alarms.proofs.CountLemmas.{value_next}
use Rattle.alarms.proofs.counter_alarms.CounterAlarms.wait_until.Goals as goal

pub returns-clause-value : goal.returns-clause-value
returns-clause-value c =
    rw (← value_next (c.args.tick / c.args.self.now.counter.ticks_per_base) (c.args.self.now.counter.max_allowed_value + 1)) (omega arith)

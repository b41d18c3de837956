use Rattle.std.proofs.Common.{◌<◌, ◌+◌, ◌-◌, ◌*◌, arith}
use Rattle.alarms.proofs.PassLemmas.{loud_then, next_ahead, quiet_before, soonest_ahead}
use Rattle.alarms.proofs.counter_alarms.CounterAlarms.quiet_ticks.Goals as goal

pub overflow_sub-due : goal.overflow_sub-due
overflow_sub-due c =
    let some : 0 < c.in-Some.left = soonest_ahead c.in-Some.left c.args.self.now.running c.requires.ready.ahead c.in-Some.ensures in
    omega arith

pub returns-then-passed-most-clause-quiet : goal.returns-then-passed-most-clause-quiet
returns-then-passed-most-clause-quiet c =
    let ahead = next_ahead c.args.tick 0 c.args.self.now c.requires.ready in
    quiet_before c.args.tick
    (c.args.self.now.next + (c.in-Some.left - 1) * c.args.self.now.counter.ticks_per_base - 1 - c.args.tick) c.args.self.now c.requires.ready
    c.in-Some.left c.in-Some.ensures (omega (arith, ahead))

pub returns-then-passed-most-clause-last : goal.returns-then-passed-most-clause-last
returns-then-passed-most-clause-last c = λ some.
    let ahead = next_ahead c.args.tick 0 c.args.self.now c.requires.ready in
    loud_then c.args.tick 0 c.args.self.now c.requires.ready c.in-Some.left
    (c.args.self.now.next + (c.in-Some.left - 1) * c.args.self.now.counter.ticks_per_base - 1 - c.args.tick + 1)
    c.in-Some.ensures (omega (arith, ahead))

pub returns-else-passed-most-clause-quiet : goal.returns-else-passed-most-clause-quiet
returns-else-passed-most-clause-quiet c =
    let ahead = next_ahead c.args.tick 0 c.args.self.now c.requires.ready in
    quiet_before c.args.tick c.args.most c.args.self.now c.requires.ready
    c.in-Some.left c.in-Some.ensures (omega (arith, ahead, c.if-passed-most.false))

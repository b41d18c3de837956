use Rattle.std.proofs.Common.{◌<◌, ◌+◌, ◌||◌, ap, ◌∙◌, arith}
use Rattle.alarms.specs.Waits.{is_raised}
use Rattle.alarms.specs.Counters.{count_of, expiry_in}
use Rattle.osek_base.specs.Alarm.{is_due_at}
use Rattle.alarms.proofs.ExpiryLemmas.{or_none}
use Rattle.alarms.proofs.CountLemmas.{stayed_expiry, not_due}
use Rattle.alarms.proofs.PassLemmas.{quiet_more, ready_more, expiry_more, due_more, ready_still, stays}
use Rattle.alarms.proofs.counter_alarms.CounterAlarms.advance.Goals as goal

pub advance-requires-clause-beyond : goal.advance-requires-clause-beyond
advance-requires-clause-beyond c =
    quiet_more c.args.tick c.args.ticks c.args.self.now c.requires.ready (omega (arith, c.if-reached-self.true)) c.requires.some c.requires.quiet

pub returns-then-reached-self-clause-ready : goal.returns-then-reached-self-clause-ready
returns-then-reached-self-clause-ready c =
    ready_more c.args.tick c.args.ticks c.args.self.now c.requires.ready (omega (arith, c.if-reached-self.true))
    c.advance.new.self c.advance.ensures.ahead c.advance.ensures.apart

pub returns-then-reached-self-clause-expiries : goal.returns-then-reached-self-clause-expiries
returns-then-reached-self-clause-expiries c = λ a.
    expiry_more c.args.tick c.args.ticks c.args.self.now c.requires.ready (omega (arith, c.if-reached-self.true))
    c.advance.new.self a c.requires.some c.requires.quiet (c.advance.ensures.waits a)

pub returns-then-reached-self-clause-due : goal.returns-then-reached-self-clause-due
returns-then-reached-self-clause-due c = λ a.
    c.advance.ensures.due a
    ∙ ap (λ p. is_raised a c.args.due.now || p)
    (due_more c.args.tick c.args.ticks c.args.self.now c.requires.ready (omega (arith, c.if-reached-self.true)) a c.requires.some c.requires.quiet)

pub returns-else-reached-self-clause-ready : goal.returns-else-reached-self-clause-ready
returns-else-reached-self-clause-ready c =
    ready_still c.args.tick c.args.ticks c.args.self.now c.requires.ready (omega (arith, c.if-reached-self.false))

pub returns-else-reached-self-clause-expiries : goal.returns-else-reached-self-clause-expiries
returns-else-reached-self-clause-expiries c = λ a.
    let low : c.args.tick + c.args.ticks < c.args.self.now.next = omega (arith, c.if-reached-self.false) in
    rw (stays c.args.tick c.args.ticks c.args.self.now c.requires.ready low)
    (stayed_expiry (count_of c.args.tick c.args.self.now) c.args.self.now.running a c.requires.ready.ahead)

pub returns-else-reached-self-clause-due : goal.returns-else-reached-self-clause-due
returns-else-reached-self-clause-due c = λ a.
    let low : c.args.tick + c.args.ticks < c.args.self.now.next = omega (arith, c.if-reached-self.false) in
    rw (stays c.args.tick c.args.ticks c.args.self.now c.requires.ready low)
    (or_none (is_raised a c.args.due.now) (is_due_at (count_of c.args.tick c.args.self.now) (expiry_in c.args.tick c.args.self.now a))
    (not_due (count_of c.args.tick c.args.self.now) c.args.self.now.running a c.requires.ready.ahead))

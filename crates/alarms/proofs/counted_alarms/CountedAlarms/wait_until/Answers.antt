use Rattle.std.proofs.Common.{◌≡◌, ◌+◌, ◌/◌, ◌∙◌, subst, sym}
use Rattle.std.proofs.lemmas.List.{get_or_default}
use Rattle.osek_base.specs.declared.task.Counter.{Counter}
use Rattle.osek_base.specs.Alarm.{next_count}
use Rattle.alarms.specs.declared.counter_alarms.CounterAlarms.{CounterAlarms}
use Rattle.alarms.specs.Counters.{counter_with, count_of, no_alarms, number_of}
use Rattle.alarms.proofs.PlaceLemmas.{known_there, counter_there}
use Rattle.alarms.proofs.counted_alarms.CountedAlarms.wait_until.Goals as goal

pub bounds-deref-number : goal.bounds-deref-number
bounds-deref-number c =
    let is : c.deref.result.now ≡ c.self.inside.numbers.items = c.deref.ensures.0 in
    rw (is, c.number.ensures.is)
    (known_there c.self.inside.tick c.self.inside.counters.items c.self.inside.numbers.items c.args.self.now c.args.alarm c.self.view_is c.requires.alarm)

pub returns-clause-value : goal.returns-clause-value
returns-clause-value c =
    let is : c.deref.result.now ≡ c.self.inside.numbers.items = c.deref.ensures.0 in
    let are : c.deref-2.result.now ≡ c.self.inside.counters.items = c.deref-2.ensures.0 in
    let low = known_there c.self.inside.tick c.self.inside.counters.items c.self.inside.numbers.items c.args.self.now c.args.alarm c.self.view_is c.requires.alarm in
    let known = c.self.invariant.known c.args.alarm low in
    let element : c.index-deref-number.result ≡ counter_with c.self.inside.counters.items c.self.inside.numbers.items c.args.alarm =
    rw (are, is, c.number.ensures.is) at c.index-deref-number.is
    ∙ get_or_default c.self.inside.counters.items (number_of c.self.inside.numbers.items c.args.alarm) c.index-deref-number.result no_alarms known in
    let next = subst (λ (k : CounterAlarms). count_of (c.self.inside.tick + c.args.ticks) k + c.wait_until.result ≡ next_count k.counter (count_of (c.self.inside.tick + c.args.ticks) k) c.args.start)
    element c.wait_until.ensures.value in
    let counter = counter_there c.self.inside.tick c.self.inside.counters.items c.self.inside.numbers.items c.args.alarm low in
    let same = subst (λ (k : Counter). (c.self.inside.tick + c.args.ticks) / k.ticks_per_base + c.wait_until.result ≡ next_count k ((c.self.inside.tick + c.args.ticks) / k.ticks_per_base) c.args.start) (sym counter) next in
    rw (← c.self.view_is) same

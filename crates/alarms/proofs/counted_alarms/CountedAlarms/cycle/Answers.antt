use Rattle.std.proofs.Common.{◌≡◌, ap, ◌∙◌}
use Rattle.std.proofs.lemmas.List.{get_or_default}
use Rattle.alarms.specs.declared.counter_alarms.CounterAlarms.{CounterAlarms}
use Rattle.alarms.specs.Waits.{cycle_in, wait_of}
use Rattle.alarms.specs.Counters.{counter_with, no_alarms, number_of}
use Rattle.alarms.proofs.PlaceLemmas.{known_there, cycle_listed}
use Rattle.alarms.proofs.counted_alarms.CountedAlarms.cycle.Goals as goal

pub bounds-deref-number : goal.bounds-deref-number
bounds-deref-number c =
    let is : c.deref.result.now ≡ c.self.inside.numbers.items = c.deref.ensures.0 in
    rw (is, c.number.ensures.is)
    (known_there c.self.inside.tick c.self.inside.counters.items c.self.inside.numbers.items c.args.self.now c.args.alarm c.self.view_is c.requires)

pub returns : goal.returns
returns c =
    let is : c.deref.result.now ≡ c.self.inside.numbers.items = c.deref.ensures.0 in
    let are : c.deref-2.result.now ≡ c.self.inside.counters.items = c.deref-2.ensures.0 in
    let low = known_there c.self.inside.tick c.self.inside.counters.items c.self.inside.numbers.items c.args.self.now c.args.alarm c.self.view_is c.requires in
    let same = cycle_listed c.self.inside.tick c.self.inside.counters.items c.self.inside.numbers.items c.args.alarm low in
    let element : c.index-deref-number.result ≡ counter_with c.self.inside.counters.items c.self.inside.numbers.items c.args.alarm =
    rw (are, is, c.number.ensures.is) at c.index-deref-number.is
    ∙ get_or_default c.self.inside.counters.items (number_of c.self.inside.numbers.items c.args.alarm) c.index-deref-number.result no_alarms (c.self.invariant.known c.args.alarm low) in
    let found = c.cycle.ensures ∙ ap (λ (k : CounterAlarms). cycle_in (wait_of c.args.alarm k.running)) element in
    rw (← c.self.view_is) (found ∙ same)

use Rattle.std.proofs.Common.{◌≡◌, ◌+◌, ◌≤◌, ap, ◌∙◌, subst, sym}
use Rattle.std.proofs.lemmas.List.{get_or_default}
use Rattle.alarms.specs.declared.counter_alarms.CounterAlarms.{CounterAlarms}
use Rattle.alarms.specs.Alarms.{remaining_at}
use Rattle.alarms.specs.Counters.{count_of, counter_with, expiry_in, no_alarms, number_of}
use Rattle.alarms.proofs.PlaceLemmas.{known_there, left_there}
use Rattle.alarms.proofs.counted_alarms.CountedAlarms.counts_left.Goals as goal

pub bounds-deref-number : goal.bounds-deref-number
bounds-deref-number c =
    let is : c.deref.result.now ≡ c.self.inside.numbers.items = c.deref.ensures.0 in
    rw (is, c.number.ensures.is)
    (known_there c.self.inside.tick c.self.inside.counters.items c.self.inside.numbers.items c.args.self.now c.args.alarm c.self.view_is c.requires.alarm)

pub counts_left-requires-clause-base : goal.counts_left-requires-clause-base
counts_left-requires-clause-base c =
    let is : c.deref.result.now ≡ c.self.inside.numbers.items = c.deref.ensures.0 in
    let are : c.deref-2.result.now ≡ c.self.inside.counters.items = c.deref-2.ensures.0 in
    let low = known_there c.self.inside.tick c.self.inside.counters.items c.self.inside.numbers.items c.args.self.now c.args.alarm c.self.view_is c.requires.alarm in
    let known = c.self.invariant.known c.args.alarm low in
    let element : c.index-deref-number.result ≡ counter_with c.self.inside.counters.items c.self.inside.numbers.items c.args.alarm =
    rw (are, is, c.number.ensures.is) at c.index-deref-number.is
    ∙ get_or_default c.self.inside.counters.items (number_of c.self.inside.numbers.items c.args.alarm) c.index-deref-number.result no_alarms known in
    subst (λ (k : CounterAlarms). 1 ≤ k.counter.ticks_per_base) (sym element) (c.self.invariant.ready (number_of c.self.inside.numbers.items c.args.alarm) known).base

pub returns : goal.returns
returns c =
    let is : c.deref.result.now ≡ c.self.inside.numbers.items = c.deref.ensures.0 in
    let are : c.deref-2.result.now ≡ c.self.inside.counters.items = c.deref-2.ensures.0 in
    let low = known_there c.self.inside.tick c.self.inside.counters.items c.self.inside.numbers.items c.args.self.now c.args.alarm c.self.view_is c.requires.alarm in
    let left = left_there c.self.inside.tick c.args.ticks c.self.inside.counters.items c.self.inside.numbers.items c.args.alarm low in
    let element : c.index-deref-number.result ≡ counter_with c.self.inside.counters.items c.self.inside.numbers.items c.args.alarm =
    rw (are, is, c.number.ensures.is) at c.index-deref-number.is
    ∙ get_or_default c.self.inside.counters.items (number_of c.self.inside.numbers.items c.args.alarm) c.index-deref-number.result no_alarms (c.self.invariant.known c.args.alarm low) in
    let found = c.counts_left.ensures
    ∙ ap (λ (k : CounterAlarms). remaining_at (count_of (c.self.inside.tick + c.args.ticks) k) (expiry_in c.self.inside.tick k c.args.alarm)) element in
    rw (← c.self.view_is) (found ∙ left)

use Rattle.std.proofs.Common.{◌≡◌}
use Rattle.alarms.proofs.PlaceLemmas.{known_there}
use Rattle.alarms.proofs.ChangeLemmas.{cancel_whole, cancel_table}
use Rattle.alarms.proofs.counted_alarms.CountedAlarms.cancel_alarm.Goals as goal

pub bounds-deref-number : goal.bounds-deref-number
bounds-deref-number c =
    let is : c.deref.result.now ≡ c.self.inside.numbers.items = c.deref.ensures.0 in
    rw (is, c.number.ensures.is)
    (known_there c.self.inside.tick c.self.inside.counters.items c.self.inside.numbers.items c.args.self.now c.args.alarm c.self.view_is c.requires)

pub cancel_on-requires : goal.cancel_on-requires
cancel_on-requires c =
    let is : c.deref.result.now ≡ c.self.inside.numbers.items = c.deref.ensures.0 in
    let low = known_there c.self.inside.tick c.self.inside.counters.items c.self.inside.numbers.items c.args.self.now c.args.alarm c.self.view_is c.requires in
    rw (is, c.number.ensures.is) (c.self.invariant.known c.args.alarm low)

pub invariant_of-self : goal.invariant_of-self
invariant_of-self c =
    let is : c.deref.result.now ≡ c.self.inside.numbers.items = c.deref.ensures.0 in
    let low = known_there c.self.inside.tick c.self.inside.counters.items c.self.inside.numbers.items c.args.self.now c.args.alarm c.self.view_is c.requires in
    rw (c.cancel_on.ensures, is, c.number.ensures.is)
    (cancel_whole c.self.inside.tick c.self.inside.counters.items c.self.inside.numbers.items c.args.alarm c.self.invariant low)

pub returns : goal.returns
returns c =
    let is : c.deref.result.now ≡ c.self.inside.numbers.items = c.deref.ensures.0 in
    let low = known_there c.self.inside.tick c.self.inside.counters.items c.self.inside.numbers.items c.args.self.now c.args.alarm c.self.view_is c.requires in
    rw (c.cancel_on.ensures, is, c.number.ensures.is, ← c.self.view_is)
    (cancel_table c.self.inside.tick c.self.inside.counters.items c.self.inside.numbers.items c.args.alarm c.self.invariant low)

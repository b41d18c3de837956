use Rattle.std.proofs.Common.{◌≡◌}
use Rattle.alarms.specs.Waits.{Wait}
use Rattle.alarms.proofs.PlaceLemmas.{known_there}
use Rattle.alarms.proofs.ChangeLemmas.{off_there, room_there, set_whole, set_table}
use Rattle.alarms.proofs.counted_alarms.CountedAlarms.start_alarm.Goals as goal

pub bounds-deref-number : goal.bounds-deref-number
bounds-deref-number c =
    let is : c.deref.result.now ≡ c.self.inside.numbers.items = c.deref.ensures.0 in
    rw (is, c.number.ensures.is)
    (known_there c.self.inside.tick c.self.inside.counters.items c.self.inside.numbers.items c.args.self.now c.args.alarm c.self.view_is c.requires.alarm)

pub start_on-requires-clause-number : goal.start_on-requires-clause-number
start_on-requires-clause-number c =
    let is : c.deref.result.now ≡ c.self.inside.numbers.items = c.deref.ensures.0 in
    let low = known_there c.self.inside.tick c.self.inside.counters.items c.self.inside.numbers.items c.args.self.now c.args.alarm c.self.view_is c.requires.alarm in
    rw (is, c.number.ensures.is) (c.self.invariant.known c.args.alarm low)

pub start_on-requires-clause-room : goal.start_on-requires-clause-room
start_on-requires-clause-room c =
    let is : c.deref.result.now ≡ c.self.inside.numbers.items = c.deref.ensures.0 in
    let low = known_there c.self.inside.tick c.self.inside.counters.items c.self.inside.numbers.items c.args.self.now c.args.alarm c.self.view_is c.requires.alarm in
    rw (is, c.number.ensures.is)
    (room_there c.self.inside.tick c.self.inside.counters.items c.self.inside.numbers.items c.args.alarm c.self.invariant low
    (off_there c.self.inside.tick c.self.inside.counters.items c.self.inside.numbers.items c.args.self.now c.args.alarm c.self.view_is low c.requires.off))

pub invariant_of-self : goal.invariant_of-self
invariant_of-self c =
    let is : c.deref.result.now ≡ c.self.inside.numbers.items = c.deref.ensures.0 in
    let t : Wait = record { alarm = c.args.alarm; left = c.args.wait; cycle = c.args.cycle } in
    let low = known_there c.self.inside.tick c.self.inside.counters.items c.self.inside.numbers.items c.args.self.now c.args.alarm c.self.view_is c.requires.alarm in
    rw (c.start_on.ensures, is, c.number.ensures.is)
    (set_whole c.self.inside.tick c.self.inside.counters.items c.self.inside.numbers.items (record { alarm = c.args.alarm; left = c.args.wait; cycle = c.args.cycle }) c.self.invariant low
    (off_there c.self.inside.tick c.self.inside.counters.items c.self.inside.numbers.items c.args.self.now c.args.alarm c.self.view_is low c.requires.off) c.requires.wait)

pub returns : goal.returns
returns c =
    let is : c.deref.result.now ≡ c.self.inside.numbers.items = c.deref.ensures.0 in
    let low = known_there c.self.inside.tick c.self.inside.counters.items c.self.inside.numbers.items c.args.self.now c.args.alarm c.self.view_is c.requires.alarm in
    rw (c.start_on.ensures, is, c.number.ensures.is, ← c.self.view_is)
    (set_table c.self.inside.tick c.self.inside.counters.items c.self.inside.numbers.items (record { alarm = c.args.alarm; left = c.args.wait; cycle = c.args.cycle }) c.self.invariant low
    (off_there c.self.inside.tick c.self.inside.counters.items c.self.inside.numbers.items c.args.self.now c.args.alarm c.self.view_is low c.requires.off) c.requires.wait)

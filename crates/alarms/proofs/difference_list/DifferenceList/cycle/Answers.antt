use Rattle.std.proofs.Common.{false, take, arith, ◌≡◌, ap, sym}
use Rattle.std.specs.List.{list_any}
use Rattle.alarms.specs.Waits.{cycle_in, is_of}
use Rattle.std.proofs.lemmas.List.{take_all}
use Rattle.alarms.proofs.WaitLemmas.{cycle_there, none_there}
use Rattle.alarms.proofs.difference_list.DifferenceList.cycle.Goals as goal

pub returns-then-place-len : goal.returns-then-place-len
returns-then-place-len c =
    rw (c.cycle_at.ensures, ← c.self.view_is)
    (sym (cycle_there c.args.alarm c.self.inside.entries.items c.place_of-place.result (omega arith) c.place_of-place.ensures.before (c.place_of-place.ensures.here (omega arith))))

pub returns-else-place-len : goal.returns-else-place-len
returns-else-place-len c =
    let all : take c.place_of-place.result c.self.inside.entries.items ≡ c.self.inside.entries.items = take_all c.place_of-place.result c.self.inside.entries.items (omega arith) in
    let none : list_any (is_of c.args.alarm) c.self.inside.entries.items ≡ false = rw all at c.place_of-place.ensures.before in
    rw (← c.self.view_is) (sym (ap cycle_in (none_there c.args.alarm c.self.inside.entries.items none)))

use Rattle.std.proofs.Common.{false, take, arith, ◌≡◌, ap, sym}
use Rattle.std.specs.List.{list_any}
use Rattle.alarms.specs.Waits.{left_in, is_of}
use Rattle.std.proofs.lemmas.List.{take_all}
use Rattle.alarms.proofs.WaitLemmas.{left_at, none_there}
use Rattle.alarms.proofs.difference_list.DifferenceList.remaining.Goals as goal

pub returns-then-place-len : goal.returns-then-place-len
returns-then-place-len c =
    let es = c.self.inside.entries.items in
    rw (c.span_from.ensures, ← c.self.view_is)
    (sym (left_at c.args.alarm c.self.inside.entries.items c.place_of-place.result (omega arith) c.place_of-place.ensures.before (c.place_of-place.ensures.here (omega arith))))

pub returns-else-place-len : goal.returns-else-place-len
returns-else-place-len c =
    let all : take c.place_of-place.result c.self.inside.entries.items ≡ c.self.inside.entries.items = take_all c.place_of-place.result c.self.inside.entries.items (omega arith) in
    let none : list_any (is_of c.args.alarm) c.self.inside.entries.items ≡ false = rw all at c.place_of-place.ensures.before in
    rw (← c.self.view_is) (sym (ap left_in (none_there c.args.alarm c.self.inside.entries.items none)))

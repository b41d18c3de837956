use Rattle.std.proofs.Common.{◌≡◌, ◌-◌, arith}
use Rattle.std.proofs.lemmas.List.{get_or_default}
use Rattle.alarms.specs.Waits.{not_waiting}
use Rattle.alarms.proofs.WaitLemmas.{soonest_there}
use Rattle.alarms.proofs.difference_list.DifferenceList.soonest.Goals as goal

pub returns : goal.returns
returns c =
    let is : c.deref.result.now ≡ c.self.inside.entries.items = c.deref.ensures.0 in
    let same = get_or_default c.self.inside.entries.items (c.len-len.result - 1) c.index-deref-len.result not_waiting (omega arith) in
    rw (is, same, ← c.self.view_is)
    (soonest_there c.self.inside.entries.items c.len-len.result c.len-len.ensures.value (omega (arith, c.if-len-eq0.false)))

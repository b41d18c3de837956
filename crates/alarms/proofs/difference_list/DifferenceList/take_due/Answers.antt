use Rattle.std.proofs.Common.{◌-◌, arith, length, ◌<◌, refl}
use Rattle.alarms.proofs.WaitLemmas.{taken_over, remove_span}
use Rattle.alarms.proofs.difference_list.DifferenceList.take_due.Goals as goal

pub invariant_of-self : goal.invariant_of-self
invariant_of-self c =
    let some : 0 < length c.self.inside.entries.items = c.is_over.ensures.some c.if-not-is_over.false in
    let least = remove_span c.self.inside.entries.items (length c.self.inside.entries.items - 1) (omega arith) in
    rw c.take_last-last.ensures.items (omega arith)

pub returns-clause-due : goal.returns-clause-due
returns-clause-due c =
    let some : 0 < length c.self.inside.entries.items = c.is_over.ensures.some c.if-not-is_over.false in
    let over = c.is_over.ensures.over c.if-not-is_over.false in
    rw (← c.self.view_is, c.take_last-last.ensures.items, c.take_last-last.ensures.value)
    (taken_over c.self.inside.entries.items (length c.self.inside.entries.items) refl some over)

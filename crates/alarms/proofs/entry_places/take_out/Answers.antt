use Rattle.std.proofs.Common.{arith, ◌≡◌, ◌-◌}
use Rattle.std.proofs.lemmas.List.{get_or_default}
use Rattle.alarms.specs.Waits.{not_waiting}
use Rattle.alarms.proofs.WaitLemmas.{two_of_span}
use Rattle.alarms.proofs.entry_places.take_out.Goals as goal

pub overflow_add-before : goal.overflow_add-before
overflow_add-before c =
    let step = two_of_span c.args.entries.now.items c.args.place (omega arith) (omega arith) in
    let is : c.deref.result.now ≡ c.args.entries.now.items = c.deref.ensures.0 in
    let before = get_or_default c.args.entries.now.items (c.args.place - 1) c.index-deref_mut-place.result not_waiting (omega arith) in
    let here = get_or_default c.args.entries.now.items c.args.place c.index-deref-place.result not_waiting (omega arith) in
    rw (is, c.deref_mut.ensures.value, before, here) (omega (arith, step))

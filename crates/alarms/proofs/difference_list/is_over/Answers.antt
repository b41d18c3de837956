use Rattle.std.proofs.Common.{◌≡◌, ◌-◌, arith}
use Rattle.std.proofs.lemmas.List.{get_or_default}
use Rattle.alarms.specs.Waits.{not_waiting}
use Rattle.alarms.proofs.WaitLemmas.{over_test}
use Rattle.alarms.proofs.difference_list.is_over.Goals as goal

pub returns-then-len-gt0-clause-ahead : goal.returns-then-len-gt0-clause-ahead
returns-then-len-gt0-clause-ahead c = λ test.
    let is : c.deref.result.now ≡ c.args.entries.now.items = c.deref.ensures.0 in
    let same = get_or_default c.args.entries.now.items (c.len-len.result - 1) c.index-deref-len.result not_waiting (omega arith) in
    over_test c.args.entries.now.items c.len-len.result c.len-len.ensures.value c.if-len-gt0.true (rw (is, same) at test)

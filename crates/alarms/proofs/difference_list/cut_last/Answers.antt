use Rattle.std.proofs.Common.{◌-◌, ◌<◌, slice_index_or, arith}
use Rattle.alarms.specs.declared.difference_list.Waiting.{Waiting}
use Rattle.alarms.proofs.PlaceLemmas.{refill_set}
use Rattle.alarms.proofs.WaitLemmas.{written_ahead}
use Rattle.alarms.proofs.difference_list.cut_last.Goals as goal

pub returns-clause-ahead : goal.returns-clause-ahead
returns-clause-ahead c = λ test.
    let es = c.args.entries.now.items in
    let n = c.len-len.result in
    let e : Waiting = slice_index_or es (n - 1) c.index-deref_mut-len.result in
    let some : 0 < n = omega (arith, c.if-len-eq0.false) in
    rw (c.deref_mut.ensures.value, refill_set es (n - 1) _)
    (written_ahead es n (record e { difference = e.difference - c.args.counts }) c.len-len.ensures.value some (rw (c.deref_mut.ensures.value) at test))

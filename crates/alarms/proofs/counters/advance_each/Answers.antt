use Rattle.std.proofs.Common.{◌≡◌, ◌<◌, ◌+◌, length, get_or, subst, arith}
use Rattle.std.proofs.lemmas.List.{get_or_default}
use Rattle.alarms.specs.Counters.{counter_at, no_alarms}
use Rattle.alarms.proofs.AdvanceLemmas.{IsThrough, through_next}
use Rattle.alarms.proofs.PlaceLemmas.{refill_set}
use Rattle.alarms.proofs.QuietLemmas.{IsQuiet, quiet_through}
use Rattle.alarms.proofs.counters.advance_each.Goals as goal

pub loop-number-preserved : goal.loop-number-preserved
loop-number-preserved c =
    let low : c.loop-number.number < length c.args.counters.now.items = omega (arith, c.loop-number-test.true, c.len-number-end.ensures.value) in
    let element : get_or c.deref_mut.result.now c.loop-number.number c.index-deref_mut-number.result ≡ counter_at c.loop-number.counters.items c.loop-number.number =
    rw c.deref_mut.ensures.value (get_or_default c.loop-number.counters.items c.loop-number.number c.index-deref_mut-number.result no_alarms (omega (arith, c.loop-number.invariant.through.same))) in
    let through : IsThrough c.args.tick c.args.ticks (get_or c.deref_mut.result.now c.loop-number.number c.index-deref_mut-number.result) c.advance.new.self c.loop-number.due c.advance.new.due = record {
      ready = c.advance.ensures.ready;
      counter = c.advance.ensures.counter;
      expiries = c.advance.ensures.expiries;
      raised = c.advance.ensures.due;
    } in
    let one = subst (λ k. IsThrough c.args.tick c.args.ticks k c.advance.new.self c.loop-number.due c.advance.new.due) element through in
    let next = through_next c.args.tick c.args.ticks c.args.counters.now.items c.loop-number.counters.items c.args.due.now c.loop-number.due c.advance.new.due c.loop-number.number c.advance.new.self c.loop-number.invariant.through low one in
    let asked : IsQuiet (c.args.tick + c.args.ticks) c.loop-number.least c.quiet_ticks-least.result c.advance.new.self = record {
      few = c.quiet_ticks-least.ensures.few;
      quiet = c.quiet_ticks-least.ensures.quiet;
      last = c.quiet_ticks-least.ensures.last;
    } in
    rw (c.deref_mut.ensures.value, refill_set c.loop-number.counters.items c.loop-number.number c.advance.new.self)
    (record {
      through = next;
      quiet = quiet_through (c.args.tick + c.args.ticks) c.args.most c.loop-number.least c.quiet_ticks-least.result c.loop-number.counters.items c.loop-number.number c.advance.new.self
          next.ready (omega (arith, c.loop-number.invariant.through.same)) c.loop-number.invariant.quiet asked;
    })

use Rattle.std.proofs.Common.{◌≡◌, ◌<◌, ◌∙◌, length, subst, arith}
use Rattle.std.proofs.lemmas.List.{get_or_default}
use Rattle.alarms.specs.Counters.{counter_at, no_alarms}
use Rattle.alarms.proofs.QuietLemmas.{IsQuiet, quiet_next}
use Rattle.alarms.proofs.counters.quiet_ticks.Goals as goal

pub loop-number-preserved : goal.loop-number-preserved
loop-number-preserved c =
    let low : c.loop-number.number < length c.args.counters.now.items = omega (arith, c.loop-number-test.true, c.len-number-end.ensures.value) in
    let is : c.deref.result.now ≡ c.args.counters.now.items = c.deref.ensures.0 in
    let element : c.index-deref-number.result ≡ counter_at c.args.counters.now.items c.loop-number.number =
    rw is at c.index-deref-number.is
    ∙ get_or_default c.args.counters.now.items c.loop-number.number c.index-deref-number.result no_alarms low in
    let one : IsQuiet c.args.tick c.loop-number.least c.quiet_ticks-least.result c.index-deref-number.result = record {
      few = c.quiet_ticks-least.ensures.few;
      quiet = c.quiet_ticks-least.ensures.quiet;
      last = c.quiet_ticks-least.ensures.last;
    } in
    quiet_next c.args.tick c.args.most c.loop-number.least c.quiet_ticks-least.result c.args.counters.now.items c.loop-number.number
    (λ k inside. c.requires.ready k (omega arith)) low c.loop-number.invariant
    (subst (IsQuiet c.args.tick c.loop-number.least c.quiet_ticks-least.result) element one)

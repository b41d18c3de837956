use Rattle.std.proofs.Common.{◌<◌, length, arith}
use Rattle.view_dumps.specs.Ticks.{expiry_text}
use Rattle.view_dumps.proofs.EachLemmas.{events_step}
use Rattle.view_dumps.proofs.events.push_expiries.Goals as goal

pub loop-number-preserved : goal.loop-number-preserved
loop-number-preserved c =
    let within : c.loop-number.number < length c.args.seen.now.items = omega arith in
    record {
      same =
          events_step expiry_text c.args.text.now c.loop-number.text c.push_expiry.new.text c.args.seen.now.items c.deref.result.now c.loop-number.number
          c.new.result _ within c.deref.ensures.0 c.new.ensures c.loop-number.invariant.same c.push_expiry.ensures.same;
      short = omega (arith, c.push_expiry.ensures.short, c.loop-number.invariant.short);
    }

use Rattle.std.proofs.Common.{◌<◌, length, arith}
use Rattle.view_dumps.specs.Ticks.{loss_text}
use Rattle.view_dumps.proofs.EachLemmas.{events_step}
use Rattle.view_dumps.proofs.events.push_losses.Goals as goal

pub loop-number-preserved : goal.loop-number-preserved
loop-number-preserved c =
    let within : c.loop-number.number < length c.args.seen.now.items = omega arith in
    record {
      same =
          events_step loss_text c.args.text.now c.loop-number.text c.push_loss.new.text c.args.seen.now.items c.deref.result.now c.loop-number.number
          c.new.result _ within c.deref.ensures.0 c.new.ensures c.loop-number.invariant.same c.push_loss.ensures.same;
      short = omega (arith, c.push_loss.ensures.short, c.loop-number.invariant.short);
    }

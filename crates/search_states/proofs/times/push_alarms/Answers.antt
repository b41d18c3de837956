use Rattle.std.proofs.Common.{ap, arith}
use Rattle.services.specs.Objects.{kept_in}
use Rattle.search_keys.specs.Key.{alarm_key}
use Rattle.search_states.specs.Parts.{at_tick}
use Rattle.search_states.proofs.Steps.{written_as}
use Rattle.search_states.proofs.times.push_alarms.Goals as goal

pub loop-number-preserved : goal.loop-number-preserved
loop-number-preserved c =
    written_as _ c.loop-number.out.items _ _ _ c.loop-number.number _ c.in_ok-push_alarm.ensures
    (ap (alarm_key c.args.system.now (at_tick c.args.tick (kept_in c.args.objects.now)))
    c.new.ensures)
    c.loop-number.invariant (omega arith)

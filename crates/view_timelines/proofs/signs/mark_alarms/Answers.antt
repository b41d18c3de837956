use Rattle.std.proofs.Common.{subst}
use Rattle.seen_ticks.specs.declared.alarm_seen.AlarmSeen.{AlarmSeen}
use Rattle.view_timelines.specs.Marks.{alarm_signs}
use Rattle.view_timelines.specs.RowSteps.{AreSigned}
use Rattle.view_timelines.proofs.SignLemmas.{one_more_alarm}
use Rattle.view_timelines.proofs.signs.mark_alarms.Goals as goal

pub loop-number-preserved : goal.loop-number-preserved
loop-number-preserved c =
    let number = c.loop-number.number in
    one_more_alarm c.args.system.now c.args.observation.now c.args.tick number c.args.tasks.now c.loop-number.tasks
    c.mark_alarm.new.tasks c.loop-number.invariant
    (subst (λ (seen : AlarmSeen). AreSigned c.args.tick (alarm_signs c.args.system.now number seen) c.loop-number.tasks c.mark_alarm.new.tasks)
    c.alarm.ensures c.in_ok-mark_alarm.ensures)

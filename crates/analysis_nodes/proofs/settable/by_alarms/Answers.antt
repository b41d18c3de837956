use Rattle.std.proofs.Common.{◌∙◌, ap, bit_or}
use Rattle.osek_base.specs.System.{Alarm}
use Rattle.osek_base.specs.Tick.{action_call}
use Rattle.law_costs.specs.Settable.{set_for}
use Rattle.analysis_nodes.proofs.SettableLemmas.{one_more}
use Rattle.analysis_nodes.proofs.settable.by_alarms.Goals as goal

pub loop-alarm-preserved : goal.loop-alarm-preserved
loop-alarm-preserved c =
    ap (bit_or c.loop-alarm.all)
    (c.acts_for-all.ensures
    ∙ (λ i. set_for c.args.task (action_call (c.alarm.view_is i).action))
    ∙ ap (λ (a : Alarm). set_for c.args.task (action_call a.action)) c.alarm-item.is)
    ∙ one_more (λ (a : Alarm). set_for c.args.task (action_call a.action)) c.args.alarms.now
    c.loop-alarm.alarm-index c.alarm-item.result c.loop-alarm.all c.loop-alarm-test.true
    c.loop-alarm.invariant

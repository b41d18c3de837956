use Rattle.std.proofs.Common.{◌≡◌, map, take}
use Rattle.osek_base.specs.System.{Alarm}
use Rattle.osek_base.specs.Tick.{action_call}
use Rattle.law_costs.specs.Settable.{all_of, set_for}
use Rattle.analysis_nodes.proofs.settable.by_alarms.Given as goal

abbrev pub invariant-loop-alarm : goal.invariant-loop-alarm
invariant-loop-alarm l = l.all ≡ all_of (map (λ (a : Alarm). set_for l.task (action_call a.action)) (take l.alarm-index l.alarms))

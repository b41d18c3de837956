use Rattle.alarms.specs.Waits.{IsLeft, overs}
use Rattle.alarms.proofs.difference_list.DifferenceList.expire_each.Given as goal

abbrev pub invariant-loop-expired : goal.invariant-loop-expired
invariant-loop-expired l = IsLeft l.initial.self l.initial.due l.self l.due

abbrev pub decreases-loop-expired : goal.decreases-loop-expired
decreases-loop-expired l = overs l.self

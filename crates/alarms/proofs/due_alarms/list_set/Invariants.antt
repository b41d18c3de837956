use Rattle.alarms.proofs.RaisedLemmas.{AreListedUpTo, left_from}
use Rattle.alarms.proofs.due_alarms.list_set.Given as goal

abbrev pub invariant-loop-next : goal.invariant-loop-next
invariant-loop-next l = AreListedUpTo l.word l.count l.due l.next

abbrev pub decreases-loop-next : goal.decreases-loop-next
decreases-loop-next l = left_from l.count l.next

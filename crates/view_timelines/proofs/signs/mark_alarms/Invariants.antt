use Rattle.view_timelines.specs.RowSteps.{AreSigned}
use Rattle.view_timelines.proofs.SignLemmas.{first_alarms}
use Rattle.view_timelines.proofs.signs.mark_alarms.Given as goal

-- what the first alarms leave is marked
abbrev pub invariant-loop-number : goal.invariant-loop-number
invariant-loop-number l = AreSigned l.tick (first_alarms l.system l.observation l.number) l.initial.tasks l.tasks

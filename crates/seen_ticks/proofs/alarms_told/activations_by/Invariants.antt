use Rattle.osek_base.specs.System.{alarm}
use Rattle.seen_ticks.specs.Observed.{is_activation}
use Rattle.seen_ticks.proofs.Counting.{AreCounted}
use Rattle.seen_ticks.proofs.alarms_told.activations_by.Given as goal

-- those of the alarms gone over
abbrev pub invariant-loop-place : goal.invariant-loop-place
invariant-loop-place l = AreCounted (λ a. is_activation l.task (alarm l.system a).action) l.alarms l.place l.count

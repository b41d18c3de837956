use Rattle.analysis_bounds.specs.Refusing.{AreActionsAccepted}
use Rattle.analysis_bounds.proofs.refusing.are_actions_accepted.Given as goal

abbrev pub invariant-loop-alarm : goal.invariant-loop-alarm
invariant-loop-alarm l = AreActionsAccepted l.system l.peaks l.alarm

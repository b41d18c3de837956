use Rattle.analysis_bounds.specs.Refusing.{AreAccepted}
use Rattle.analysis_bounds.proofs.refusing.are_accepted.Given as goal

abbrev pub invariant-loop-task : goal.invariant-loop-task
invariant-loop-task l =
    AreAccepted l.system l.mode l.rules l.mosts l.peaks l.task

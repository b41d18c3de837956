use Rattle.analysis_bounds.specs.Told.{TasksAreTold}
use Rattle.analysis_bounds.proofs.told.tasks_are_told.Given as goal

abbrev pub invariant-loop-task : goal.invariant-loop-task
invariant-loop-task l = TasksAreTold l.system l.peaks l.mosts l.task

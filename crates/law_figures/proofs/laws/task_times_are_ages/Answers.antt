use Rattle.law_figures.proofs.Times.{task_times_are_ages}
use Rattle.law_figures.proofs.laws.task_times_are_ages.Goals as goal

pub returns : goal.returns
returns c = task_times_are_ages

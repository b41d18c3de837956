use Rattle.law_figures.proofs.Times.{routine_times_are_ages}
use Rattle.law_figures.proofs.laws.routine_times_are_ages.Goals as goal

pub returns : goal.returns
returns c = routine_times_are_ages

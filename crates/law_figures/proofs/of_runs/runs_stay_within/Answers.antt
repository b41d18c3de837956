use Rattle.law_figures.proofs.RunTimes.{runs_stay_within}
use Rattle.law_figures.proofs.of_runs.runs_stay_within.Goals as goal

pub returns : goal.returns
returns c = runs_stay_within

use Rattle.law_figures.proofs.Nothing.{runs_have_none}
use Rattle.law_figures.proofs.of_runs.runs_have_none.Goals as goal

pub returns : goal.returns
returns c = runs_have_none

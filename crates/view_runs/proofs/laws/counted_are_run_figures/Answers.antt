use Rattle.view_runs.proofs.LawLemmas.{counted_are_run_figures}
use Rattle.view_runs.proofs.laws.counted_are_run_figures.Goals as goal

pub returns : goal.returns
returns c = counted_are_run_figures

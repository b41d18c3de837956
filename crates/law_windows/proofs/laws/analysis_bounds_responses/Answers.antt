use Rattle.law_windows.proofs.Analysis.{analysis_bounds_responses}
use Rattle.law_windows.proofs.laws.analysis_bounds_responses.Goals as goal

pub returns : goal.returns
returns c = analysis_bounds_responses

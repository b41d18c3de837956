use Rattle.search_keys.proofs.Runs.{runs_are_in_range}
use Rattle.search_keys.proofs.laws.runs_are_in_range.Goals as goal

pub returns : goal.returns
returns c = runs_are_in_range

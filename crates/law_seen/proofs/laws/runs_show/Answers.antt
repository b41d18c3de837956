use Rattle.law_seen.proofs.Shown.{runs_show}
use Rattle.law_seen.proofs.laws.runs_show.Goals as goal

pub returns : goal.returns
returns c = runs_show

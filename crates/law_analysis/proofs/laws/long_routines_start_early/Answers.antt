use Rattle.law_analysis.proofs.Late.{long_routines_start_early}
use Rattle.law_analysis.proofs.laws.long_routines_start_early.Goals as goal

pub returns : goal.returns
returns c = long_routines_start_early

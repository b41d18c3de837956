use Rattle.law_kept.proofs.Standing.{job_move_stands}
use Rattle.law_kept.proofs.laws.job_move_stands.Goals as goal

pub returns : goal.returns
returns c = job_move_stands

use Rattle.law_kept.proofs.Standing.{routine_move_stands}
use Rattle.law_kept.proofs.laws.routine_move_stands.Goals as goal

pub returns : goal.returns
returns c = routine_move_stands

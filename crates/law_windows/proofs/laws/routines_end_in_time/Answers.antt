use Rattle.law_windows.proofs.Routines.{routines_end_in_time}
use Rattle.law_windows.proofs.laws.routines_end_in_time.Goals as goal

pub returns : goal.returns
returns c = routines_end_in_time

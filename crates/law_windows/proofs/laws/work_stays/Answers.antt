use Rattle.law_windows.proofs.Steady.{work_stays}
use Rattle.law_windows.proofs.laws.work_stays.Goals as goal

pub returns : goal.returns
returns c = work_stays

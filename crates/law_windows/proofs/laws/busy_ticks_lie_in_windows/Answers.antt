use Rattle.law_windows.proofs.Begins.{busy_ticks_lie_in_windows}
use Rattle.law_windows.proofs.laws.busy_ticks_lie_in_windows.Goals as goal

pub returns : goal.returns
returns c = busy_ticks_lie_in_windows

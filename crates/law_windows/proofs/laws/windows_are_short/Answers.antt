use Rattle.law_windows.proofs.Short.{windows_are_short}
use Rattle.law_windows.proofs.laws.windows_are_short.Goals as goal

pub returns : goal.returns
returns c = windows_are_short

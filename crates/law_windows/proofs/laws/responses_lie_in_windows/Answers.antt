use Rattle.law_windows.proofs.Responses.{responses_lie_in_windows}
use Rattle.law_windows.proofs.laws.responses_lie_in_windows.Goals as goal

pub returns : goal.returns
returns c = responses_lie_in_windows

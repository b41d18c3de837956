use Rattle.law_analysis.proofs.Refusing.{accepted_actions}
use Rattle.law_analysis.proofs.laws.accepted_actions.Goals as goal

pub returns : goal.returns
returns c = accepted_actions

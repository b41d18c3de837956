use Rattle.law_nodes.proofs.Closing.{closed_tables_stay_known}
use Rattle.law_nodes.proofs.laws.closed_tables_stay_known.Goals as goal

pub returns : goal.returns
returns c = closed_tables_stay_known

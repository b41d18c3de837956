use Rattle.law_kept.proofs.Nesting.{few_nested}
use Rattle.law_kept.proofs.laws.few_nested.Goals as goal

pub returns : goal.returns
returns c = few_nested

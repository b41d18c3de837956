use Rattle.law_upper.proofs.Starting.{interrupts_start_above}
use Rattle.law_upper.proofs.figures_above.bounded_interrupts_start_above.Goals as goal

pub returns : goal.returns
returns c = interrupts_start_above

use Rattle.law_bounds.proofs.Starting.{bounded_interrupts_start}
use Rattle.law_bounds.proofs.endless.bounded_interrupts_start.Goals as goal

pub returns : goal.returns
returns c = bounded_interrupts_start

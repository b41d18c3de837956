use Rattle.law_upper.proofs.Part.{bounds_of_the_part_hold}
use Rattle.law_upper.proofs.figures_above.bounds_of_the_part_hold.Goals as goal

pub returns : goal.returns
returns c = bounds_of_the_part_hold

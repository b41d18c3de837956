use Rattle.law_upper.proofs.Part.{upper_parts_show_the_same}
use Rattle.law_upper.proofs.figures_above.upper_parts_show_the_same.Goals as goal

pub returns : goal.returns
returns c = upper_parts_show_the_same

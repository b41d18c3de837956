use Rattle.law_lines.proofs.Lines.{lines_are_short}
use Rattle.law_lines.proofs.laws.lines_are_short.Goals as goal

pub returns : goal.returns
returns c = lines_are_short

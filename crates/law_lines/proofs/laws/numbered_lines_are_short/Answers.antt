use Rattle.law_lines.proofs.Lines.{numbered_lines_are_short}
use Rattle.law_lines.proofs.laws.numbered_lines_are_short.Goals as goal

pub returns : goal.returns
returns c = numbered_lines_are_short

use Rattle.law_lines.proofs.Lines.{view_lines_are_short}
use Rattle.law_lines.proofs.laws.view_lines_are_short.Goals as goal

pub returns : goal.returns
returns c = view_lines_are_short

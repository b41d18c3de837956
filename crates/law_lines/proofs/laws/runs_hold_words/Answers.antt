use Rattle.law_lines.proofs.Runs.{runs_hold_words}
use Rattle.law_lines.proofs.laws.runs_hold_words.Goals as goal

pub returns : goal.returns
returns c = runs_hold_words

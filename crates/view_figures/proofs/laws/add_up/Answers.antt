use Rattle.view_figures.proofs.AddLemmas.{adds_up}
use Rattle.view_figures.proofs.laws.add_up.Goals as goal

pub returns : goal.returns
returns c = adds_up

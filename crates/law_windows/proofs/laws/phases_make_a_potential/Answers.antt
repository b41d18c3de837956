use Rattle.law_windows.proofs.Phases.{phases_make_a_potential}
use Rattle.law_windows.proofs.laws.phases_make_a_potential.Goals as goal

pub returns : goal.returns
returns c = phases_make_a_potential

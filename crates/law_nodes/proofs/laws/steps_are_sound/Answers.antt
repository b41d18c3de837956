use Rattle.law_nodes.proofs.Sound.{steps_are_sound}
use Rattle.law_nodes.proofs.laws.steps_are_sound.Goals as goal

pub returns : goal.returns
returns c = steps_are_sound

use Rattle.search_witnesses.proofs.AboveCuts.{what_the_part_shows_holds}
use Rattle.search_witnesses.proofs.above_cuts.what_the_part_shows_holds.Goals as goal

pub returns : goal.returns
returns c = what_the_part_shows_holds

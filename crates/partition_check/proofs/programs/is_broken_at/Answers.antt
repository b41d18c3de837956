use Rattle.partition_check.proofs.PlaceLemmas.{place_short}
use Rattle.partition_check.proofs.programs.is_broken_at.Goals as goal

pub new-requires : goal.new-requires
new-requires c =
    place_short c.args.system.now c.args.owner c.args.place c.shows_proper.ensures c.requires.owner c.requires.place

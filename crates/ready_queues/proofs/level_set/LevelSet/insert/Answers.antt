use Rattle.ready_queues.proofs.WordLemmas.{inserted}
use Rattle.ready_queues.proofs.level_set.LevelSet.insert.Goals as goal

pub returns : goal.returns
returns c =
    inserted c.self.inside.word _ c.args.level c.self.view_is c.requires

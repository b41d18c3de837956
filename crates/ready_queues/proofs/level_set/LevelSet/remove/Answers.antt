use Rattle.ready_queues.proofs.WordLemmas.{removed}
use Rattle.ready_queues.proofs.level_set.LevelSet.remove.Goals as goal

pub returns : goal.returns
returns c =
    removed c.self.inside.word _ c.args.level c.self.view_is c.requires

use Rattle.std.proofs.Common.{◌∙◌, ap}
use Rattle.ready_queues.specs.Queues.{top_level}
use Rattle.ready_queues.specs.Levels.{Levels, tasks_of}
use Rattle.ready_queues.proofs.WordLemmas.{top-highest}
use Rattle.ready_queues.proofs.level_queues.LevelQueuesReadyQueues.top.Goals as goal

pub returns : goal.returns
returns c =
    let s = c.self.inside in
    top-highest s.levels.items s.count s.room c.self.invariant.0 s.occupied c.self.invariant.1 _
    c.highest.ensures.none c.highest.ensures.some
    ∙ ap (λ (v : Levels). top_level (tasks_of v)) c.self.view_is

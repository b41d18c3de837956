use Rattle.std.proofs.Common.{◌∙◌, ℕ, List, [], ◌∷◌, ◌++◌, ap}
use Rattle.std.proofs.lemmas.List.{length_push}
use Rattle.ready_queues.specs.Queues.{with_newest}
use Rattle.ready_queues.specs.Levels.{Levels, tasks_of}
use Rattle.ready_queues.proofs.KeptLemmas.{room_seen, counted-put, tasks_at-write}
use Rattle.ready_queues.proofs.WordLemmas.{marked-put}
use Rattle.ready_queues.proofs.level_queues.LevelQueuesReadyQueues.put_newest.Goals as goal

pub put_newest-requires : goal.put_newest-requires
put_newest-requires c =
    let s = c.self.inside in
    room_seen s.levels.items s.count s.room c.self.invariant.0 c.args.level c.index_mut-tasks.result.now _
    c.self.view_is c.requires.level
    c.index_mut-tasks.ensures.value c.requires.room

pub invariant_of-self : goal.invariant_of-self
invariant_of-self c =
    let s = c.self.inside in
    let was = c.index_mut-tasks.result.now in
    let now = c.put_newest.new.self in (
      counted-put s.levels.items s.count s.room c.self.invariant.0 c.args.level was now _ c.requires.level
          c.index_mut-tasks.ensures.value
          c.put_newest.ensures (length_push was.items c.args.task),
      marked-put s.levels.items s.count s.room c.self.invariant.0 s.occupied c.self.invariant.1
          c.args.level was now _ _
          c.requires.level c.put_newest.ensures (length_push was.items c.args.task) c.insert.ensures,
    )

pub returns-clause-tasks : goal.returns-clause-tasks
returns-clause-tasks c =
    let s = c.self.inside in
    let was = c.index_mut-tasks.result.now in
    let now = c.put_newest.new.self in
    tasks_at-write s.levels.items s.count s.room c.self.invariant.0 c.args.level was now
    (λ (xs : List ℕ). xs ++ c.args.task ∷ [])
    c.requires.level c.index_mut-tasks.ensures.value c.put_newest.ensures
    ∙ ap (λ (v : Levels). with_newest c.args.level c.args.task (tasks_of v)) c.self.view_is

use Rattle.std.proofs.Common.{◌≡◌, ◌+◌, ◌∙◌, ℕ, List, ◌∷◌, length, ap, arith}
use Rattle.ready_queues.specs.Queues.{with_oldest}
use Rattle.ready_queues.specs.Levels.{Levels, tasks_of}
use Rattle.ready_queues.proofs.KeptLemmas.{room_seen, counted-put, tasks_at-write}
use Rattle.ready_queues.proofs.list_queues.ListQueuesReadyQueues.put_oldest.Goals as goal

pub push_oldest-requires : goal.push_oldest-requires
push_oldest-requires c =
    let s = c.self.inside in
    room_seen s.levels.items s.count s.room c.self.invariant c.args.level c.index_mut-tasks.result.now _
    c.self.view_is c.requires.level
    c.index_mut-tasks.ensures.value c.requires.room

pub invariant_of-self : goal.invariant_of-self
invariant_of-self c =
    let s = c.self.inside in
    let was = c.index_mut-tasks.result.now in
    let now = c.push_oldest.new.tasks in
    let longer : length (c.args.task ∷ was.items) ≡ length was.items + 1 = omega arith in
    counted-put s.levels.items s.count s.room c.self.invariant c.args.level was now _ c.requires.level
    c.index_mut-tasks.ensures.value
    c.push_oldest.ensures longer

pub returns-clause-tasks : goal.returns-clause-tasks
returns-clause-tasks c =
    let s = c.self.inside in
    let was = c.index_mut-tasks.result.now in
    let now = c.push_oldest.new.tasks in
    tasks_at-write s.levels.items s.count s.room c.self.invariant c.args.level was now
    (λ (xs : List ℕ). c.args.task ∷ xs)
    c.requires.level c.index_mut-tasks.ensures.value c.push_oldest.ensures
    ∙ ap (λ (v : Levels). with_oldest c.args.level c.args.task (tasks_of v)) c.self.view_is

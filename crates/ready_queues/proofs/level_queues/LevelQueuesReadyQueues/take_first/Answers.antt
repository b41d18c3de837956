use Rattle.std.proofs.Common.{◌∙◌, sym, ap, arith}
use Rattle.ready_queues.specs.Queues.{top_level, first_task, without_first}
use Rattle.ready_queues.specs.Levels.{Levels, tasks_of, tasks_at}
use Rattle.ready_queues.proofs.KeptLemmas.{low_top, at_top, counted-take, first-take, tasks_at-take}
use Rattle.ready_queues.proofs.WordLemmas.{marked-emptied, marked-more}
use Rattle.ready_queues.proofs.level_queues.LevelQueuesReadyQueues.take_first.Goals as goal
use Rattle.ready_queues.proofs.level_queues.LevelQueuesReadyQueues.take_first.Goals.{then-is_empty, else-is_empty}

pub index_mut-tasks-requires : goal.index_mut-tasks-requires
index_mut-tasks-requires c =
    let s = c.self.inside in
    let top = c.in_ok-top.ensures ∙ sym (ap (λ (v : Levels). top_level (tasks_of v)) c.self.view_is) in
    let low = low_top (tasks_at s.levels.items) c.in_ok-top.top top in
    let all = c.self.invariant.0.all in
    omega arith

pub remove-requires : goal.remove-requires
remove-requires c =
    let s = c.self.inside in
    let top = c.in_ok-top.ensures ∙ sym (ap (λ (v : Levels). top_level (tasks_of v)) c.self.view_is) in
    low_top (tasks_at s.levels.items) c.in_ok-top.top top

pub overflow_sub-self : goal.overflow_sub-self
overflow_sub-self c =
    let s = c.self.inside in
    let was = c.index_mut-tasks.result.now in
    let top = c.in_ok-top.ensures ∙ sym (ap (λ (v : Levels). top_level (tasks_of v)) c.self.view_is) in
    let t = at_top s.levels.items s.count s.room c.self.invariant.0 c.in_ok-top.top was top
    c.index_mut-tasks.ensures.value in
    elim c.if-is_empty.branch [
      | then-is_empty w ↦ rw w.self-inside-is t.some
      | else-is_empty w ↦ rw w.self-inside-is t.some
    ]

pub invariant_of-self : goal.invariant_of-self
invariant_of-self c =
    let s = c.self.inside in
    let was = c.index_mut-tasks.result.now in
    let now = c.take_first-first.new.self in
    let top = c.in_ok-top.ensures ∙ sym (ap (λ (v : Levels). top_level (tasks_of v)) c.self.view_is) in
    let t = at_top s.levels.items s.count s.room c.self.invariant.0 c.in_ok-top.top was top
    c.index_mut-tasks.ensures.value in
    let counted = counted-take s.levels.items s.count s.room c.self.invariant.0 c.in_ok-top.top was now t
    c.take_first-first.ensures.tasks in
    elim c.if-is_empty.branch [
      | then-is_empty w ↦ rw w.self-inside-is (
        counted,
        marked-emptied s.levels.items s.count s.room c.self.invariant.0 s.occupied c.self.invariant.1
            c.in_ok-top.top was now _ t
            (sym w.if-is_empty.ensures) w.remove.ensures,
      )
      | else-is_empty w ↦ rw w.self-inside-is (
        counted,
        marked-more s.levels.items s.count s.room c.self.invariant.0 s.occupied c.self.invariant.1
            c.in_ok-top.top was now t
            (sym w.if-is_empty.ensures),
      )
    ]

pub returns-clause-value : goal.returns-clause-value
returns-clause-value c =
    let s = c.self.inside in
    let was = c.index_mut-tasks.result.now in
    let top = c.in_ok-top.ensures ∙ sym (ap (λ (v : Levels). top_level (tasks_of v)) c.self.view_is) in
    let t = at_top s.levels.items s.count s.room c.self.invariant.0 c.in_ok-top.top was top
    c.index_mut-tasks.ensures.value in
    c.take_first-first.ensures.value ∙ first-take s.levels.items s.count s.room c.self.invariant.0
    c.in_ok-top.top was t top
    ∙ ap (λ (v : Levels). first_task (tasks_of v)) c.self.view_is

pub returns-clause-tasks : goal.returns-clause-tasks
returns-clause-tasks c =
    let s = c.self.inside in
    let was = c.index_mut-tasks.result.now in
    let now = c.take_first-first.new.self in
    let top = c.in_ok-top.ensures ∙ sym (ap (λ (v : Levels). top_level (tasks_of v)) c.self.view_is) in
    let t = at_top s.levels.items s.count s.room c.self.invariant.0 c.in_ok-top.top was top
    c.index_mut-tasks.ensures.value in
    let left = tasks_at-take s.levels.items s.count s.room c.self.invariant.0 c.in_ok-top.top was now t top
    c.take_first-first.ensures.tasks ∙ ap (λ (v : Levels). without_first (tasks_of v)) c.self.view_is in
    elim c.if-is_empty.branch [
      | then-is_empty w ↦ rw w.self-inside-is left
      | else-is_empty w ↦ rw w.self-inside-is left
    ]

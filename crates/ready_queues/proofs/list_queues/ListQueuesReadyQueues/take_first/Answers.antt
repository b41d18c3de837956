use Rattle.std.proofs.Common.{◌∙◌, sym, ap, arith}
use Rattle.ready_queues.specs.Queues.{top_level, first_task, without_first}
use Rattle.ready_queues.specs.Levels.{Levels, tasks_of, tasks_at}
use Rattle.ready_queues.proofs.KeptLemmas.{low_top, at_top, counted-take, first-take, tasks_at-take}
use Rattle.ready_queues.proofs.list_queues.ListQueuesReadyQueues.take_first.Goals as goal

pub index_mut-requires : goal.index_mut-requires
index_mut-requires c =
    let s = c.self.inside in
    let top = c.in_ok-top.ensures ∙ sym (ap (λ (v : Levels). top_level (tasks_of v)) c.self.view_is) in
    let low = low_top (tasks_at s.levels.items) c.in_ok-top.top top in
    let all = c.self.invariant.all in
    omega arith

pub overflow_sub-self : goal.overflow_sub-self
overflow_sub-self c =
    let s = c.self.inside in
    let was = c.index_mut.result.now in
    let top = c.in_ok-top.ensures ∙ sym (ap (λ (v : Levels). top_level (tasks_of v)) c.self.view_is) in
    let t = at_top s.levels.items s.count s.room c.self.invariant c.in_ok-top.top was top c.index_mut.ensures.value in
    t.some

pub invariant_of-self : goal.invariant_of-self
invariant_of-self c =
    let s = c.self.inside in
    let was = c.index_mut.result.now in
    let now = c.pop_front-first.new.self in
    let top = c.in_ok-top.ensures ∙ sym (ap (λ (v : Levels). top_level (tasks_of v)) c.self.view_is) in
    let t = at_top s.levels.items s.count s.room c.self.invariant c.in_ok-top.top was top c.index_mut.ensures.value in
    counted-take s.levels.items s.count s.room c.self.invariant c.in_ok-top.top was now t
    c.pop_front-first.ensures.items

pub returns-clause-value : goal.returns-clause-value
returns-clause-value c =
    let s = c.self.inside in
    let was = c.index_mut.result.now in
    let top = c.in_ok-top.ensures ∙ sym (ap (λ (v : Levels). top_level (tasks_of v)) c.self.view_is) in
    let t = at_top s.levels.items s.count s.room c.self.invariant c.in_ok-top.top was top c.index_mut.ensures.value in
    c.pop_front-first.ensures.value ∙ first-take s.levels.items s.count s.room c.self.invariant c.in_ok-top.top
    was t top
    ∙ ap (λ (v : Levels). first_task (tasks_of v)) c.self.view_is

pub returns-clause-tasks : goal.returns-clause-tasks
returns-clause-tasks c =
    let s = c.self.inside in
    let was = c.index_mut.result.now in
    let now = c.pop_front-first.new.self in
    let top = c.in_ok-top.ensures ∙ sym (ap (λ (v : Levels). top_level (tasks_of v)) c.self.view_is) in
    let t = at_top s.levels.items s.count s.room c.self.invariant c.in_ok-top.top was top c.index_mut.ensures.value in
    tasks_at-take s.levels.items s.count s.room c.self.invariant c.in_ok-top.top was now t top
    c.pop_front-first.ensures.items
    ∙ ap (λ (v : Levels). without_first (tasks_of v)) c.self.view_is

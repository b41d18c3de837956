use Rattle.std.proofs.Common.{◌∙◌, sym, ap, length, arith}
use Rattle.std.proofs.lemmas.Bool.{eqb-true, eqb-false}
use Rattle.ready_queues.specs.declared.ready_queues.TheConstants.{LEVELS}
use Rattle.ready_queues.specs.Queues.{top_level}
use Rattle.ready_queues.specs.Levels.{Levels, tasks_of}
use Rattle.ready_queues.proofs.Tops.{top_below-none}
use Rattle.ready_queues.proofs.KeptLemmas.{found_top, none_from}
use Rattle.ready_queues.proofs.list_queues.ListQueuesReadyQueues.top.Goals as goal

pub returns-then-not-is_empty : goal.returns-then-not-is_empty
returns-then-not-is_empty c =
    let s = c.self.inside in
    let some = c.loop-level-test.true in
    found_top s.levels.items s.count s.room c.self.invariant c.loop-level.level c.index.result.now some
    c.loop-level.auto.level c.index.ensures
    (eqb-false (length c.index.result.now.items) 0 (sym c.if-not-is_empty.ensures))
    (λ k high low. ap (λ (v : Levels). tasks_of v k) c.self.view_is ∙ c.loop-level.invariant k high low)
    ∙ ap (λ (v : Levels). top_level (tasks_of v)) c.self.view_is

pub loop-level-preserved : goal.loop-level-preserved
loop-level-preserved c k from low =
    let s = c.self.inside in
    let some = c.loop-level-test.true in
    sym (ap (λ (v : Levels). tasks_of v k) c.self.view_is)
    ∙ none_from s.levels.items s.count s.room c.self.invariant c.loop-level.level c.index.result.now some
    c.loop-level.auto.level c.index.ensures
    (eqb-true (length c.index.result.now.items) 0 (sym c.if-not-is_empty.ensures))
    (λ k high low. ap (λ (v : Levels). tasks_of v k) c.self.view_is ∙ c.loop-level.invariant k high low) k from low

pub returns : goal.returns
returns c =
    sym (top_below-none LEVELS (tasks_of c.args.self.now)
    (λ k low. c.loop-level.invariant k (let h = c.loop-level-test.false in omega arith) low))

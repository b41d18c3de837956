use Rattle.std.proofs.Common.{ℕ, ◌≡◌, ◌<◌, [], length, ◌∙◌, ap, sym, Some, None, List}
use Rattle.ready_queues.specs.declared.ready_queues.TheConstants.{LEVELS}
use Rattle.ready_queues.specs.Levels.{Levels}
use Rattle.ready_queues.specs.LevelLists.{by_level}
use Rattle.ready_queues.specs.QueueMoves.{first}
use Rattle.ready_queues.specs.Queues.{top_level}
use Rattle.ready_queues.proofs.ListMoves.{taken-first, list-without_first}
use Rattle.ready_queues.proofs.Tops.{top_below-some}
use Rattle.services.proofs.ready_list.ReadyList.take_first.Goals as goal

-- the level is the highest that has a task
on_top : (lists : List (List ℕ)) (l : ℕ) → l < LEVELS → 0 < length (by_level lists l) → ((k : ℕ) → l < k → by_level lists k ≡ [])
    → top_level (by_level lists) ≡ Some l
on_top lists l low some none =
    top_below-some LEVELS (by_level lists) l record { below = low; has_task = some; none_above = λ k high within. none k high }

pub unreachable-requires : goal.unreachable-requires
unreachable-requires g c =
    let lists = c.args.self.now.lists in
    let top = on_top lists c.args.level c.requires.level c.requires.some c.requires.none in
    let e = taken-first _ lists (ap (λ (v : Levels). v.lists) c.self.view_is) c.args.level top in
    let clash : None ≡ Some (first (by_level lists c.args.level)) = sym c.in-None.is ∙ c.take_first.ensures.value ∙ e in
    cc

pub returns-clause-task : goal.returns-clause-task
returns-clause-task g c =
    let lists = c.args.self.now.lists in
    let top = on_top lists c.args.level c.requires.level c.requires.some c.requires.none in
    let e = taken-first _ lists (ap (λ (v : Levels). v.lists) c.self.view_is) c.args.level top in
    let same : Some c.in-Some.task ≡ Some (first (by_level lists c.args.level)) = sym c.in-Some.is ∙ c.take_first.ensures.value ∙ e in
    cc

pub returns-clause-becomes : goal.returns-clause-becomes
returns-clause-becomes g c =
    let top = on_top c.args.self.now.lists c.args.level c.requires.level c.requires.some c.requires.none in
    record {
      lists = list-without_first _ _ (ap (λ (v : Levels). v.lists) c.self.view_is) c.args.level _ top c.take_first.ensures.tasks;
      room = c.take_first.ensures.room ∙ ap (λ (v : Levels). v.room) c.self.view_is;
    }

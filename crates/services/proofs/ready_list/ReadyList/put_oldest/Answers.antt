use Rattle.std.proofs.Common.{◌<◌, ◌∙◌, ap, sym, subst}
use Rattle.ready_queues.specs.Levels.{Levels}
use Rattle.ready_queues.specs.LevelLists.{by_level}
use Rattle.ready_queues.specs.Queues.{total}
use Rattle.ready_queues.proofs.LevelLists.{total-by_level}
use Rattle.ready_queues.proofs.ListMoves.{list-put_oldest}
use Rattle.services.proofs.ready_list.ReadyList.put_oldest.Goals as goal

pub put_oldest-requires-clause-room : goal.put_oldest-requires-clause-room
put_oldest-requires-clause-room g c =
    let q = g.Q.ReadyQueues.queues c.self.inside.queues in
    subst (λ n. n < g.Q.ReadyQueues.room c.self.inside.queues) (total-by_level q)
    (subst (λ (v : Levels). total (by_level v.lists) < v.room) (sym c.self.view_is) c.requires.room)

pub returns : goal.returns
returns g c = record {
  lists =
      list-put_oldest (g.Q.ReadyQueues.queues c.self.inside.queues) _ (ap (λ (v : Levels). v.lists) c.self.view_is) c.args.level c.args.task _ c.requires.level
      c.put_oldest.ensures.tasks;
  room = c.put_oldest.ensures.room ∙ ap (λ (v : Levels). v.room) c.self.view_is;
}

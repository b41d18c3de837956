use Rattle.std.proofs.Common.{◌∙◌, ap, suc}
use Rattle.ready_queues.specs.Levels.{Levels}
use Rattle.ready_queues.proofs.ListMoves.{top-highest_list}
use Rattle.services.proofs.ready_list.ReadyList.highest.Goals as goal

pub returns : goal.returns
returns g c =
    c.top.ensures
    ∙ top-highest_list _ _ (ap (λ (v : Levels). v.lists) c.self.view_is) (suc c.args.top) c.requires.top (λ k high within. c.requires.none k high)

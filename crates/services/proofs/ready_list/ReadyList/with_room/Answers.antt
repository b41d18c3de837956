use Rattle.std.proofs.Common.{◌∙◌, ap}
use Rattle.ready_queues.specs.Queues.{Queues}
use Rattle.ready_queues.specs.LevelLists.{by_level, level_lists}
use Rattle.ready_queues.proofs.LevelLists.{by_level-no_tasks}
use Rattle.services.proofs.ready_list.ReadyList.with_room.Goals as goal

pub returns-clause-empty : goal.returns-clause-empty
returns-clause-empty g c = let e = c.in_ok-with_room.ensures in ap (λ (q : Queues). by_level (level_lists q)) e.empty ∙ by_level-no_tasks

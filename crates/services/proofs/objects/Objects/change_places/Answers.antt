use Rattle.std.proofs.Common.{◌<◌, ◌≤◌, ◌∙◌, sym, ap, subst, arith}
use Rattle.osek_base.specs.Ceiling.{top_priority}
use Rattle.ready_queues.specs.Queues.{total}
use Rattle.ready_queues.specs.QueueMoves.{put_oldest, without_first_at_level}
use Rattle.ready_queues.specs.LevelLists.{by_level}
use Rattle.law_kept.specs.Standing.{room_for}
use Rattle.services.specs.Objects.{Objects}
use Rattle.services.proofs.BoundLemmas.{put_behind_take, take_frees}
use Rattle.services.proofs.objects.Objects.change_places.Goals as goal

pub put_oldest-requires-clause-room : goal.put_oldest-requires-clause-room
put_oldest-requires-clause-room g c =
    let k = c.self.inside in
    let high = subst (λ (x : Objects). c.args.level ≤ top_priority x.system) (sym c.self.view_is) c.requires.highest.low in
    let fewer = take_frees (by_level k.ready.lists) c.args.level (omega (arith, high, c.self.invariant.bounds.top)) in
    let lists = ap total c.take_first-next.ensures.becomes.lists in
    let free = subst (λ (x : Objects). total (by_level x.queues) < room_for x.system) (sym c.self.view_is) c.requires.free in
    omega (arith, fewer, lists, free, c.take_first-next.ensures.becomes.room, c.self.invariant.room)

pub returns-clause-queues : goal.returns-clause-queues
returns-clause-queues g c =
    let k = c.self.inside in
    c.put_oldest.ensures.lists
    ∙ ap (λ q. put_oldest q c.args.own c.args.task) c.take_first-next.ensures.becomes.lists
    ∙ put_behind_take (by_level k.ready.lists) c.args.own c.args.task c.args.level c.requires.own
    ∙ ap (λ (x : Objects). without_first_at_level (put_oldest (by_level x.queues) c.args.own c.args.task) c.args.level) c.self.view_is

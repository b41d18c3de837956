use Rattle.std.proofs.Common.{◌≡◌, ◌∙◌, ap}
use Rattle.services.specs.CompactQueues.{first_level}
use Rattle.services.proofs.CompactLemmas.{top_is}
use Rattle.services.proofs.compact_queues.CompactQueuesReadyQueues.top.Goals as goal

pub returns : goal.returns
returns c =
    let is : c.deref.result.now ≡ c.self.inside.entries.items = c.deref.ensures.value in
    rw (← c.self.view_is) (c.first_level.ensures ∙ ap first_level is ∙ top_is c.self.inside.entries.items c.self.invariant.falling)

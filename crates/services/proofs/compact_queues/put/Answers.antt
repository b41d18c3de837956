use Rattle.std.proofs.Common.{rules}
use Rattle.services.proofs.CompactLemmas.{placed_is}
use Rattle.services.proofs.compact_queues.put.Goals as goal

pub returns : goal.returns
returns c =
    let is = placed_is c.args.from c.args.entry c.args.entries.now.items c.place_below-place.result (search rules) (search rules) (search rules) in
    record { items = rw (← is) (search rules); capacity = search rules }

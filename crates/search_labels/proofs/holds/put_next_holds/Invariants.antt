use Rattle.std.proofs.Common.{◌≡◌, length, map, take}
use Rattle.osek_base.specs.Lists.{below}
use Rattle.seen_ticks.specs.Seen.{seen_of}
use Rattle.search_labels.specs.Parts.{hold_behind}
use Rattle.search_labels.proofs.holds.put_next_holds.Given as goal

-- the holds of those gone over
abbrev pub invariant-loop-resource : goal.invariant-loop-resource
invariant-loop-resource l =
    (length l.next.items ≡ length l.holds) × (
    take l.resource l.next.items
    ≡ map (hold_behind l.cap (seen_of l.seen) l.holds) (below l.resource))

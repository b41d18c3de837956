use Rattle.std.proofs.Common.{◌≡◌, length, map, take}
use Rattle.osek_base.specs.Lists.{below}
use Rattle.seen_ticks.specs.Seen.{seen_of}
use Rattle.search_labels.specs.Parts.{pending_behind}
use Rattle.search_labels.proofs.pending.put_next_pending.Given as goal

-- the ages of those gone over
abbrev pub invariant-loop-routine : goal.invariant-loop-routine
invariant-loop-routine l =
    (length l.next.items ≡ length l.pending) × (
    take l.routine l.next.items
    ≡ map (pending_behind l.cap (seen_of l.seen) l.pending) (below l.routine))

use Rattle.std.proofs.Common.{◌≡◌, length, map, take}
use Rattle.osek_base.specs.Lists.{below}
use Rattle.view_figures.specs.FigureSums.{levels_of, lower_executes}
use Rattle.seen_ticks.specs.Seen.{seen_of}
use Rattle.search_labels.specs.Parts.{blocked_behind}
use Rattle.search_labels.proofs.blocked.put_next_blocked.Given as goal

-- the ticks of those gone over
abbrev pub invariant-loop-task : goal.invariant-loop-task
invariant-loop-task l =
    (length l.next.items ≡ length l.blocked) × (
    take l.task l.next.items
    ≡ map (blocked_behind (lower_executes (levels_of l.system) l.seen.executor) l.cap
    (seen_of l.seen) l.blocked) (below l.task))

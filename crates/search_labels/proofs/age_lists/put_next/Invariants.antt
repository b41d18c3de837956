use Rattle.std.proofs.Common.{◌≡◌, length, map, take}
use Rattle.osek_base.specs.Lists.{below}
use Rattle.seen_ticks.specs.Seen.{seen_of}
use Rattle.search_labels.specs.AgeLists.{begin_of, lists_of}
use Rattle.search_labels.specs.Parts.{ages_behind}
use Rattle.search_labels.proofs.ListLemmas.{AreMade}
use Rattle.search_labels.proofs.age_lists.put_next.Given as goal

-- those gone over, and where the next begin
abbrev pub invariant-loop-task : goal.invariant-loop-task
invariant-loop-task l =
    AreMade l.ages.items (take l.task l.ends.items)
    (map (ages_behind l.cap (seen_of l.seen) (lists_of l.old_ages l.old_ends)) (below l.task))
    × (length l.ends.items ≡ length l.old_ends)
    × (l.begin ≡ begin_of l.old_ends l.task)

use Rattle.std.proofs.Common.{map}
use Rattle.osek_base.specs.Lists.{below}
use Rattle.search_labels.specs.Parts.{merged_lists}
use Rattle.search_labels.proofs.ListLemmas.{AreMade}
use Rattle.search_labels.proofs.age_lists.merged.Given as goal

-- those gone over
abbrev pub invariant-loop-task : goal.invariant-loop-task
invariant-loop-task l =
    AreMade l.ages.items l.ends.items (map (merged_lists l.others l.lists) (below l.task))

use Rattle.std.proofs.Common.{◌≡◌, ◌++◌, take}
use Rattle.std.specs.List.{flat_map}
use Rattle.search_packed.specs.Packed.{ages_bytes}
use Rattle.search_packed.proofs.packing.push_tasks.Given as goal

abbrev pub invariant-loop-task : goal.invariant-loop-task
invariant-loop-task l =
    l.out.items ≡ l.fn.out.items ++ flat_map ages_bytes (take l.task l.labels.ages)

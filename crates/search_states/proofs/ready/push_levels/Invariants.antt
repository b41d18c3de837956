use Rattle.std.proofs.Common.{◌≡◌, ◌≤◌, ◌++◌, ◌-◌}
use Rattle.services.specs.CompactQueues.{tasks_at}
use Rattle.search_keys.specs.Bytes.{each}
use Rattle.search_keys.specs.Key.{level_key}
use Rattle.search_states.proofs.ready.push_levels.Given as goal

abbrev pub invariant-loop-level : goal.invariant-loop-level
invariant-loop-level l =
    (l.from ≤ 64) × (l.out.items ≡ l.fn.out.items
    ++ each l.from (λ n. level_key n (tasks_at l.entries n)))

abbrev pub decreases-loop-level : goal.decreases-loop-level
decreases-loop-level l = 64 - l.from

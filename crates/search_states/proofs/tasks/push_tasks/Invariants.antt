use Rattle.std.proofs.Common.{◌≡◌, ◌++◌}
use Rattle.search_keys.specs.Bytes.{each}
use Rattle.search_keys.specs.Key.{task_key}
use Rattle.services.specs.Objects.{kept_in}
use Rattle.search_needs.specs.Table.{need_of}
use Rattle.search_states.proofs.tasks.push_tasks.Given as goal

abbrev pub invariant-loop-number : goal.invariant-loop-number
invariant-loop-number l =
    l.out.items ≡ l.fn.out.items
    ++ each l.number (task_key (need_of l.needs) (kept_in l.objects))

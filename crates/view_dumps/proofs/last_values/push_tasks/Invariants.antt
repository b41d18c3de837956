use Rattle.std.proofs.Common.{◌≡◌, ◌+◌, ◌*◌, ◌≤◌, ◌++◌, length, take}
use Rattle.view_dumps.specs.Ticks.{task_after, task_text, changes_from, values_after}
use Rattle.view_dumps.proofs.last_values.push_tasks.Given as goal

abbrev pub invariant-loop-number : goal.invariant-loop-number
invariant-loop-number l =
    record {
      same : l.text ≡ l.initial.text ++ changes_from task_text 0 l.initial.values (take l.number l.seen.items);
      after : l.values ≡ values_after task_after l.initial.values (take l.number l.seen.items);
      short : length l.text ≤ length l.initial.text + 39 * l.number;
    }

use Rattle.std.proofs.Common.{◌≡◌, ◌+◌, ◌*◌, ◌≤◌, ◌++◌, length}
use Rattle.view_dumps.specs.Declarations.{task_scope, each_below}
use Rattle.view_dumps.proofs.declarations.push_each_task.Given as goal

abbrev pub invariant-loop-number : goal.invariant-loop-number
invariant-loop-number l =
    record {
      same : l.text ≡ l.initial.text ++ each_below (task_scope l.system.names) l.number;
      short : length l.text ≤ length l.initial.text + 231 * l.number;
    }

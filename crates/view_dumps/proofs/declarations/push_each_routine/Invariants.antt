use Rattle.std.proofs.Common.{◌≡◌, ◌+◌, ◌*◌, ◌≤◌, ◌++◌, length}
use Rattle.view_dumps.specs.Declarations.{routine_scope, each_below}
use Rattle.view_dumps.proofs.declarations.push_each_routine.Given as goal

abbrev pub invariant-loop-number : goal.invariant-loop-number
invariant-loop-number l =
    record {
      same : l.text ≡ l.initial.text ++ each_below (routine_scope l.system.names) l.number;
      short : length l.text ≤ length l.initial.text + 231 * l.number;
    }

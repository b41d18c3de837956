use Rattle.std.proofs.Common.{◌≡◌, ◌+◌, ◌*◌, ◌≤◌, ◌++◌, length}
use Rattle.view_dumps.specs.Declarations.{alarm_line, each_below}
use Rattle.view_dumps.proofs.declarations.push_each_alarm.Given as goal

abbrev pub invariant-loop-number : goal.invariant-loop-number
invariant-loop-number l =
    record {
      same : l.text ≡ l.initial.text ++ each_below (alarm_line l.system.names) l.number;
      short : length l.text ≤ length l.initial.text + 55 * l.number;
    }

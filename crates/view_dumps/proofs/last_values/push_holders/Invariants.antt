use Rattle.std.proofs.Common.{◌≡◌, ◌+◌, ◌*◌, ◌≤◌, ◌++◌, length, take}
use Rattle.view_dumps.specs.Ticks.{holder_after, holder_text, changes_from, values_after}
use Rattle.view_dumps.proofs.last_values.push_holders.Given as goal

abbrev pub invariant-loop-number : goal.invariant-loop-number
invariant-loop-number l =
    record {
      same : l.text ≡ l.initial.text ++ changes_from (holder_text l.system) 0 l.initial.values (take l.number l.seen.items);
      after : l.values ≡ values_after holder_after l.initial.values (take l.number l.seen.items);
      short : length l.text ≤ length l.initial.text + 37 * l.number;
    }

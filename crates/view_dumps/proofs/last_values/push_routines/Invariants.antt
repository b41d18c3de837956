use Rattle.std.proofs.Common.{◌≡◌, ◌+◌, ◌*◌, ◌≤◌, ◌++◌, length, take}
use Rattle.std.specs.List.{list_any}
use Rattle.view_dumps.specs.Ticks.{loses, routine_after, routine_text, changes_from, values_after}
use Rattle.view_dumps.proofs.last_values.push_routines.Given as goal

abbrev pub invariant-loop-number : goal.invariant-loop-number
invariant-loop-number l =
    record {
      same : l.text ≡ l.initial.text ++ changes_from routine_text 0 l.initial.values (take l.number l.seen.items);
      lost : l.has_lost ≡ list_any loses (take l.number l.seen.items);
      after : l.values ≡ values_after routine_after l.initial.values (take l.number l.seen.items);
      short : length l.text ≤ length l.initial.text + 8 * l.number;
    }

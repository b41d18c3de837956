use Rattle.std.proofs.Common.{◌≡◌, ◌+◌, ◌*◌, ◌≤◌, ◌++◌, length, take}
use Rattle.view_dumps.specs.Ticks.{events_from, loss_text}
use Rattle.view_dumps.proofs.events.push_losses.Given as goal

abbrev pub invariant-loop-number : goal.invariant-loop-number
invariant-loop-number l =
    record {
      same : l.text ≡ l.initial.text ++ events_from loss_text 0 (take l.number l.seen.items);
      short : length l.text ≤ length l.initial.text + 4 * l.number;
    }

use Rattle.std.proofs.Common.{◌≡◌, ◌++◌}
use Rattle.search_keys.specs.Bytes.{each}
use Rattle.search_keys.specs.Key.{alarm_key}
use Rattle.services.specs.Objects.{kept_in}
use Rattle.search_states.specs.Parts.{at_tick}
use Rattle.search_states.proofs.times.push_alarms.Given as goal

abbrev pub invariant-loop-number : goal.invariant-loop-number
invariant-loop-number l =
    l.out.items ≡ l.fn.out.items
    ++ each l.number (alarm_key l.system (at_tick l.tick (kept_in l.objects)))

use Rattle.std.proofs.Common.{◌≡◌, ◌++◌}
use Rattle.search_keys.specs.Bytes.{each}
use Rattle.search_keys.specs.Key.{shared_key}
use Rattle.kernel.specs.Machine.{picture}
use Rattle.search_needs.specs.Table.{need_of}
use Rattle.search_states.proofs.words.push_shared_windows.Given as goal

abbrev pub invariant-loop-number : goal.invariant-loop-number
invariant-loop-number g l =
    l.out.items ≡ l.fn.out.items
    ++ each l.number (shared_key (need_of l.needs) (picture l.machine))

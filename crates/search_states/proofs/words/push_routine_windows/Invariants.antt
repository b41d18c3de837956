use Rattle.std.proofs.Common.{◌≡◌, ◌++◌}
use Rattle.search_keys.specs.Bytes.{each}
use Rattle.search_keys.specs.Key.{window_key}
use Rattle.osek_base.specs.declared.ids.Owner.{Owner}
use Rattle.kernel.specs.Machine.{picture}
use Rattle.search_needs.specs.Table.{need_of}
use Rattle.search_states.proofs.words.push_routine_windows.Given as goal

abbrev pub invariant-loop-number : goal.invariant-loop-number
invariant-loop-number g l =
    l.out.items ≡ l.fn.out.items
    ++ each l.number (λ i. window_key (need_of l.needs)
    (picture l.machine) (Owner.Routine i))

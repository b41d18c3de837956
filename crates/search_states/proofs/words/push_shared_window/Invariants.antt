use Rattle.std.proofs.Common.{◌≡◌, ◌++◌}
use Rattle.search_keys.specs.Bytes.{each, number}
use Rattle.osek_base.specs.State.{shared_word}
use Rattle.kernel.specs.Machine.{picture}
use Rattle.search_states.proofs.words.push_shared_window.Given as goal

abbrev pub invariant-loop-index : goal.invariant-loop-index
invariant-loop-index g l =
    l.out.items ≡ l.fn.out.items
    ++ each l.index (λ i. number (shared_word (picture l.machine).shared l.resource i))

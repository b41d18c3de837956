use Rattle.std.proofs.Common.{◌≡◌, ◌++◌}
use Rattle.std.specs.Prelude.{false, slice_index_or}
use Rattle.search_keys.specs.Bytes.{each, flag}
use Rattle.search_states.proofs.interrupts.push_pending.Given as goal

abbrev pub invariant-loop-number : goal.invariant-loop-number
invariant-loop-number l =
    l.out.items ≡ l.fn.out.items
    ++ each l.number (λ i. flag (slice_index_or l.objects.pending i false))

use Rattle.std.proofs.Common.{ℕ, ◌≡◌, true}
use Rattle.std.specs.Int.{bit_at}
use Rattle.law_future.specs.Spans.{is_pending_in}
use Rattle.kernel.specs.Machine.{picture}
use Rattle.search_bounds.proofs.routines.pending_routines.Given as goal

abbrev pub invariant-loop-number : goal.invariant-loop-number
invariant-loop-number l =
    (i : ℕ) → bit_at l.set i ≡ 1 → is_pending_in (picture l.machine) i ≡ true

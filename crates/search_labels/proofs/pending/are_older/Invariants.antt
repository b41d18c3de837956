use Rattle.std.proofs.Common.{ℕ, None, ◌<◌, get_or}
use Rattle.law_figures.specs.Pending.{IsOlder}
use Rattle.search_labels.proofs.pending.are_older.Given as goal

abbrev pub invariant-loop-routine : goal.invariant-loop-routine
invariant-loop-routine l =
    (i : ℕ) → i < l.routine → IsOlder (get_or l.pending i None) (get_or l.others i None)

use Rattle.std.proofs.Common.{ℕ, ◌≡◌, false, length, slice_index_or, ◌+◌, ◌-◌}
use Rattle.search.proofs.agenda.make_room.Given as goal

abbrev pub invariant-loop-marks : goal.invariant-loop-marks
invariant-loop-marks l = (k : ℕ) → slice_index_or l.marks.items k false ≡ slice_index_or l.fn.marks.items k false

abbrev pub decreases-loop-marks : goal.decreases-loop-marks
decreases-loop-marks l = (l.number + 1) - length l.marks.items

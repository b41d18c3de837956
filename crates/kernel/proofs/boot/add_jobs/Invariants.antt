use Rattle.std.proofs.Common.{ℕ, ◌≡◌, false, length, replicate}
use Rattle.std.specs.Prelude.{◌==◌, Some, None}
use Rattle.law_blockers.specs.Restamping.{stamps_at}
use Rattle.kernel.proofs.boot.add_jobs.Given as goal

-- the jobs so far stand in the task's list, and the other lists are as they were
abbrev pub invariant-loop-made : goal.invariant-loop-made
invariant-loop-made l = record {
  sized : length l.stamps.lists ≡ length l.initial.stamps.lists;
  own : stamps_at l.stamps.lists l.task ≡ replicate l._made (Some 0);
  others : (t : ℕ) → (l.task == t) ≡ false → stamps_at l.stamps.lists t ≡ stamps_at l.initial.stamps.lists t;
  none : l.initial.stamps.spent ≡ None → l.stamps.spent ≡ None;
}

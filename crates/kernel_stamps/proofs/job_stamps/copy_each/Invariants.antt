use Rattle.std.proofs.Common.{◌≡◌, length, take}
use Rattle.kernel_stamps.proofs.job_stamps.copy_each.Given as goal

-- the first ones are copied
abbrev pub invariant-loop-number : goal.invariant-loop-number
invariant-loop-number l = (take l.number l.tasks ≡ take l.number l.others) × (length l.tasks ≡ length l.others)

use Rattle.std.proofs.Common.{◌≡◌, take}
use Rattle.kernel_stamps.proofs.job_stamps.replace_tasks.Given as goal

abbrev pub invariant-loop-number : goal.invariant-loop-number
invariant-loop-number l = l.tasks.items ≡ take l.number l.others

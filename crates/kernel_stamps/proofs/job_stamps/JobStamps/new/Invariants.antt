use Rattle.std.proofs.Common.{◌≡◌, [], replicate}
use Rattle.kernel_stamps.proofs.job_stamps.JobStamps.new.Given as goal

-- no job of each task so far
abbrev pub invariant-loop-made : goal.invariant-loop-made
invariant-loop-made l = l.tasks.items ≡ replicate l._made []

use Rattle.std.proofs.Common.{◌-◌, length}
use Rattle.system_gen.proofs.class.+is_single_job_from.Given as goal

abbrev pub decreases-is_single_job_from : goal.decreases-is_single_job_from
decreases-is_single_job_from l = length l.system.now.tasks - l.number

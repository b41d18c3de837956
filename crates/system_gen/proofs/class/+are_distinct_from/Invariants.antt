use Rattle.std.proofs.Common.{◌-◌, length}
use Rattle.system_gen.proofs.class.+are_distinct_from.Given as goal

abbrev pub decreases-are_distinct_from : goal.decreases-are_distinct_from
decreases-are_distinct_from l = length l.system.now.tasks - l.number

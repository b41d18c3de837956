use Rattle.std.proofs.Common.{◌≡◌, map}
use Rattle.osek_base.specs.Upper.{is_upper_task}
use Rattle.osek_base.specs.Agree.{kept, upper_task}
use Rattle.partition_check.proofs.upper_part.UpperPart.tasks.Given as goal

abbrev pub invariant-loop-number : goal.invariant-loop-number
invariant-loop-number l = l.tasks.items ≡ map (upper_task l.self.system l.self.p) (kept (is_upper_task l.self.system l.self.p) l.number)

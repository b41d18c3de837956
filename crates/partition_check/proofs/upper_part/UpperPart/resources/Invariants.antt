use Rattle.std.proofs.Common.{◌≡◌, map}
use Rattle.osek_base.specs.Agree.{kept, is_upper_declared, resource}
use Rattle.partition_check.proofs.upper_part.UpperPart.resources.Given as goal

abbrev pub invariant-loop-number : goal.invariant-loop-number
invariant-loop-number l = l.resources.items ≡ map (resource l.self.system) (kept (is_upper_declared l.self.system l.self.p) l.number)

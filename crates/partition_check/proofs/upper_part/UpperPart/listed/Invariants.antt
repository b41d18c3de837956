use Rattle.std.proofs.Common.{◌≡◌, map, take}
use Rattle.osek_base.specs.Agree.{rank, is_upper_declared}
use Rattle.partition_check.proofs.upper_part.UpperPart.listed.Given as goal

abbrev pub invariant-loop-resource : goal.invariant-loop-resource
invariant-loop-resource l = l.listed.items ≡ map (rank (is_upper_declared l.self.system l.self.p)) (take l.resource-index l.resources)

use Rattle.std.proofs.Common.{◌≡◌, map, take}
use Rattle.osek_base.specs.Agree.{upper_routine}
use Rattle.partition_check.proofs.upper_part.UpperPart.routines.Given as goal

abbrev pub invariant-loop-routine : goal.invariant-loop-routine
invariant-loop-routine l = l.routines.items ≡ map (upper_routine l.self.system l.self.p) (take l.routine-index l.self.system.routines)

use Rattle.std.proofs.Common.{◌≡◌, drop}
use Rattle.system_gen.specs.Programs.{end_fault}
use Rattle.system_gen.proofs.program_checks.check_ends.Given as goal

abbrev pub invariant-loop-program : goal.invariant-loop-program
invariant-loop-program l = end_fault (drop l.program-index l.programs) ≡ end_fault l.programs

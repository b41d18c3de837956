use Rattle.std.proofs.Common.{◌≡◌, drop}
use Rattle.system_gen.specs.Programs.{return_fault}
use Rattle.system_gen.proofs.program_checks.check_returns.Given as goal

abbrev pub invariant-loop-program : goal.invariant-loop-program
invariant-loop-program l = return_fault (drop l.program-index l.programs) ≡ return_fault l.programs

use Rattle.std.proofs.Common.{◌≡◌, drop}
use Rattle.system_gen.specs.Programs.{routine_program_fault}
use Rattle.system_gen.proofs.program_checks.check_routine_programs.Given as goal

abbrev pub invariant-loop-routine : goal.invariant-loop-routine
invariant-loop-routine l = routine_program_fault l.programs (drop l.routine-index l.routines) ≡ routine_program_fault l.programs l.routines

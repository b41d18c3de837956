use Rattle.std.proofs.Common.{◌≡◌, drop}
use Rattle.std.specs.List.{find, list_any}
use Rattle.system_gen.specs.Programs.{is_program_of}
use Rattle.system_gen.proofs.program_checks.program_of.Given as goal

abbrev pub invariant-loop-program : goal.invariant-loop-program
invariant-loop-program l =
    (find (is_program_of l.kind l.name) (drop l.program-index l.programs) ≡ find (is_program_of l.kind l.name) l.programs)
    × (list_any (is_program_of l.kind l.name) (drop l.program-index l.programs) ≡ list_any (is_program_of l.kind l.name) l.programs)

use Rattle.std.proofs.Common.{◌≡◌, drop}
use Rattle.system_gen.specs.References.{first_of, program_reference}
use Rattle.system_gen.specs.Typed.{are_typed}
use Rattle.system_gen.proofs.references.check_programs.Given as goal

abbrev pub invariant-loop-program : goal.invariant-loop-program
invariant-loop-program l =
    (first_of (program_reference l.file l.declared) (drop l.program-index l.programs) ≡ first_of (program_reference l.file l.declared) l.programs)
    × (are_typed (drop l.program-index l.programs) ≡ are_typed l.programs)

use Rattle.std.proofs.Common.{◌≡◌, drop}
use Rattle.std.specs.List.{list_all}
use Rattle.system_gen.specs.References.{first_of, instruction_reference}
use Rattle.system_gen.specs.Typed.{is_typed}
use Rattle.system_gen.proofs.references.check_lines.Given as goal

abbrev pub invariant-loop-line : goal.invariant-loop-line
invariant-loop-line l =
    (first_of (instruction_reference l.file l.declared) (drop l.line-index l.lines) ≡ first_of (instruction_reference l.file l.declared) l.lines)
    × (list_all is_typed (drop l.line-index l.lines) ≡ list_all is_typed l.lines)

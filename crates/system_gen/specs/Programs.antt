-- The modelled processor. What generation refuses in programs.
use Rattle.std.specs.Prelude.{ℕ, ◌-◌, Bool, true, false, not, ◌&&◌, List, Option, length, nat_lt, nat_le, slice_get, bytes_eq}
use Rattle.std.specs.List.{list_all, list_any}
use Rattle.std.specs.Option.{option_map_or}
use Rattle.osek_base.specs.declared.limits.TheConstants.{MAX_INSTRUCTIONS}
use Rattle.osek_base.specs.declared.instr.Plain.{Plain}
use Rattle.osek_base.specs.declared.instr.Control.{Control}
use Rattle.oil_reader.specs.Configuration.{TaskRecord, IsrRecord}
use Rattle.task_asm.specs.declared.program.NamedInstr.{NamedInstr}
use Rattle.task_asm.specs.declared.program.ProgramKind.{ProgramKind}
use Rattle.task_asm.specs.Labels.{is_kind}
use Rattle.task_asm.specs.Programs.{Program}
use Rattle.system_gen.specs.declared.fault.GenFault.{GenFault}
use Rattle.system_gen.specs.Checks.{first_fault}

-- after which no instruction follows
abbrev pub is_end : NamedInstr → Bool
is_end (NamedInstr.Plain (Plain.Jmp to)) = true
is_end (NamedInstr.Control Control.ReturnFromInterrupt) = true
is_end _ = false

-- whether a program can't be left at its end
abbrev pub ends_well : Program → Bool
ends_well p = option_map_or is_end (slice_get p.instructions (length p.instructions - 1)) false

-- whether an instruction jumps to a place below a number, if it jumps
abbrev pub jumps_below : ℕ → NamedInstr → Bool
jumps_below size (NamedInstr.Plain (Plain.Jmp to)) = nat_lt to size
jumps_below size (NamedInstr.Plain (Plain.JumpIf test a b to)) = nat_lt to size
jumps_below size _ = true

-- whether a program can't be left, neither at its end nor by a jump
unfoldable pub is_closed : Program → Bool
is_closed p =
    ends_well p && list_all (jumps_below (length p.instructions)) p.instructions && nat_le (length p.instructions) MAX_INSTRUCTIONS

abbrev pub is_return : NamedInstr → Bool
is_return (NamedInstr.Control Control.ReturnFromInterrupt) = true
is_return _ = false

-- only a routine returns from an interrupt
abbrev pub may_have : ProgramKind → List NamedInstr → Bool
may_have ProgramKind.Task instructions = not (list_any is_return instructions)
may_have ProgramKind.Routine instructions = true

abbrev pub returns_well : Program → Bool
returns_well p = may_have p.kind p.instructions

-- whether a program is that of the task or routine of that name
abbrev pub is_program_of : ProgramKind → List ℕ → Program → Bool
is_program_of kind name p = is_kind p.kind kind && bytes_eq p.name name

abbrev pub has_task_program : List Program → TaskRecord → Bool
has_task_program programs t = list_any (is_program_of ProgramKind.Task t.name) programs

abbrev pub has_routine_program : List Program → IsrRecord → Bool
has_routine_program programs i = list_any (is_program_of ProgramKind.Routine i.name) programs

-- the faults of programs, each by the first task, routine or program that has it
abbrev pub task_program_fault : List Program → List TaskRecord → Option GenFault
task_program_fault programs tasks = first_fault (has_task_program programs) (λ t. GenFault.NoProgram t.name) tasks

abbrev pub routine_program_fault : List Program → List IsrRecord → Option GenFault
routine_program_fault programs routines = first_fault (has_routine_program programs) (λ i. GenFault.NoProgram i.name) routines

abbrev pub end_fault : List Program → Option GenFault
end_fault programs = first_fault is_closed (λ p. GenFault.LastNotJump p.name) programs

abbrev pub return_fault : List Program → Option GenFault
return_fault programs = first_fault returns_well (λ p. GenFault.RetiInTask p.name) programs

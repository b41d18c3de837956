-- OSEK/VDX OS: system generation. Which fault a file and its programs have.
use Rattle.std.specs.Prelude.{List, [], ◌∷◌, Option, None}
use Rattle.std.specs.Option.{option_or, option_map}
use Rattle.std.specs.Result.{result_err}
use Rattle.oil_reader.specs.Configuration.{Configuration}
use Rattle.task_asm.specs.Programs.{Program}
use Rattle.system_gen.specs.declared.fault.GenFault.{GenFault}
use Rattle.system_gen.specs.DeclaredNames.{declared_in}
use Rattle.system_gen.specs.References.{reference_fault}
use Rattle.system_gen.specs.Checks.{beyond_limit, activation_fault, resource_fault, counter_fault, alarm_fault}
use Rattle.system_gen.specs.Programs.{task_program_fault, routine_program_fault, end_fault, return_fault}
use Rattle.system_gen.specs.Masks.{all_masks}

-- the first that is there
abbrev pub first_found : List (Option GenFault) → Option GenFault
first_found [] = None
first_found (fault ∷ faults) = option_or fault (first_found faults)

-- ---- for each number in turn the fault of the first subject that has it, if any

-- 1 to 4: names, numbers of objects, and what tasks list
abbrev pub declaration_fault : Configuration → List Program → Option GenFault
declaration_fault f programs = first_found (
    reference_fault f (declared_in f) programs
    ∷ option_map GenFault.Limit (beyond_limit f)
    ∷ activation_fault f.tasks
    ∷ resource_fault f.resources f.tasks
    ∷ [])

-- 5 to 7: programs. Of NoProgram the tasks come before the routines
abbrev pub program_fault : Configuration → List Program → Option GenFault
program_fault f programs = first_found (
    task_program_fault programs f.tasks
    ∷ routine_program_fault programs f.routines
    ∷ end_fault programs
    ∷ return_fault programs
    ∷ [])

-- 8 to 10: masks, counters and alarms
abbrev pub value_fault : Configuration → Option GenFault
value_fault f = first_found (result_err (all_masks f.events) ∷ counter_fault f.counters ∷ alarm_fault f f.alarms ∷ [])

-- the fault of a file and its programs: of the lowest number that applies that of the first subject
unfoldable pub generation_fault : Configuration → List Program → Option GenFault
generation_fault f programs = first_found (declaration_fault f programs ∷ program_fault f programs ∷ value_fault f ∷ [])

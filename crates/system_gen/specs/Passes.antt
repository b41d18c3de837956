-- OIL: standard objects; OSEK/VDX OS: system generation. An OIL file and programs that pass the checks of generation.
use Rattle.std.specs.Prelude.{◌≡◌, List, None}
use Rattle.oil_reader.specs.Configuration.{Configuration}
use Rattle.task_asm.specs.Programs.{Program}
use Rattle.system_gen.specs.Checks.{beyond_limit, activation_fault, resource_fault, counter_fault, alarm_fault}
use Rattle.system_gen.specs.Programs.{task_program_fault, routine_program_fault, end_fault, return_fault}

-- no more objects than allowed, and no fault of tasks, programs, counters and alarms
pub record Passes (f : Configuration) (programs : List Program) : Type 0 where
  pub limits : beyond_limit f ≡ None
  pub activations : activation_fault f.tasks ≡ None
  pub resources : resource_fault f.resources f.tasks ≡ None
  pub task_programs : task_program_fault programs f.tasks ≡ None
  pub routine_programs : routine_program_fault programs f.routines ≡ None
  pub ends : end_fault programs ≡ None
  pub returns : return_fault programs ≡ None
  pub counters : counter_fault f.counters ≡ None
  pub alarms : alarm_fault f f.alarms ≡ None

-- The system of a checked file and typed programs in which no fault applies is proper.
use Rattle.std.proofs.Common.{◌≡◌, true, List, None, Ok, refl}
use Rattle.std.specs.List.{list_all, AllByRecursion}
use Rattle.std.proofs.lemmas.Bool.{and_parts, and_from}
use Rattle.osek_base.specs.Proper.{IsProper, is_proper_task, is_proper_routine}
use Rattle.oil_reader.specs.Configuration.{Configuration}
use Rattle.oil_reader.specs.Checked.{is_checked}
use Rattle.oil_reader.proofs.CheckedParts.{checked_parts}
use Rattle.task_asm.specs.Programs.{Program}
use Rattle.system_gen.specs.DeclaredNames.{declared_in}
use Rattle.system_gen.specs.References.{first_of, task_reference, alarm_reference, program_reference}
use Rattle.system_gen.specs.Programs.{is_closed, returns_well, has_task_program, has_routine_program}
use Rattle.system_gen.specs.Masks.{all_masks}
use Rattle.system_gen.specs.Generated.{known_of, masks_of, generated}
use Rattle.system_gen.specs.Faults.{generation_fault}
use Rattle.system_gen.specs.Passes.{Passes}
use Rattle.system_gen.specs.Typed.{are_typed}
use Rattle.system_gen.proofs.FaultLemmas.{none_of, none_passes, none_masks, none_references}
use Rattle.system_gen.proofs.ObjectsProper.{system_of, none_fails, resource_number, alarm_number, masks_length, events_proper, mask_of_proper, tasks_proper, counters_proper}
use Rattle.system_gen.proofs.AlarmsProper.{alarms_proper}
use Rattle.system_gen.proofs.NamesProper.{within, named, falling, task_number, each_task_of_all, names_proper, extended_task}
use Rattle.system_gen.proofs.ProgramsProper.{AreKnown, IsChecked, each_checked, task_programs, routines}

module _ (f : Configuration) (programs : List Program) (checked : is_checked f ≡ true) (typed : are_typed programs ≡ true)
    (sound : generation_fault f programs ≡ None) where
  passes : Passes f programs
  passes = none_passes f programs sound

  made : all_masks f.events ≡ Ok (masks_of f.events)
  made = none_masks f programs sound

  -- no unknown name in the tasks, in the alarms, in the programs
  names_known : (first_of (task_reference (declared_in f)) f.tasks ≡ None) × (first_of (alarm_reference (declared_in f)) f.alarms ≡ None)
      × (first_of (program_reference f (declared_in f)) programs ≡ None)
  names_known =
      let tasks = none_of _ _ (none_references f programs sound) in
      let alarms = none_of _ _ tasks.1 in
      (tasks.0, alarms.0, alarms.1)

  known : AreKnown f (known_of f) (system_of f programs)
  known = record {
    each_task = task_number f programs;
    each_alarm = alarm_number f programs checked;
    each_resource = λ name h. (resource_number f programs checked name h).0;
    each_property = λ name h. (resource_number f programs checked name h).1;
    each_mask = mask_of_proper f checked made;
    scheduler = refl;
  }

  programs_checked : AllByRecursion (IsChecked f (known_of f)) programs
  programs_checked =
      each_checked f (known_of f) (system_of f programs) known programs names_known.2
      (none_fails is_closed _ programs passes.ends) (none_fails returns_well _ programs passes.returns) typed

  each_task : list_all (is_proper_task (system_of f programs)) (system_of f programs).tasks ≡ true
  each_task =
      each_task_of_all f programs (is_proper_task (system_of f programs))
      (tasks_proper f programs checked made names_known.0 passes.activations passes.resources
      (task_programs f (known_of f) (system_of f programs) known programs programs_checked f.tasks
      (none_fails (has_task_program programs) _ f.tasks passes.task_programs)))

  each_routine : list_all (is_proper_routine (system_of f programs)) (system_of f programs).routines ≡ true
  each_routine =
      routines f (known_of f) (system_of f programs) known programs programs_checked f.routines
      (and_parts _ _ (checked_parts f checked).routines).0 (none_fails (has_routine_program programs) _ f.routines passes.routine_programs)

  system_proper : IsProper (system_of f programs)
  system_proper = record {
    limits = within f programs passes.limits checked (masks_length f checked made);
    named = named f programs (masks_length f checked made);
    names = names_proper f checked;
    objects =
        and_from _ _ (and_from _ _ (and_from _ _ (and_from _ _ (and_from _ _
        (falling f programs) each_task) each_routine) (events_proper f checked made)) (counters_proper f programs checked made passes.counters))
        (alarms_proper f programs checked made (task_number f programs) (extended_task f programs checked) names_known.1 passes.alarms);
  }

pub generated_proper : (f : Configuration) (programs : List Program) → is_checked f ≡ true → are_typed programs ≡ true
    → generation_fault f programs ≡ None → IsProper (generated f programs)
unfolding generated
generated_proper f programs checked typed sound = system_proper f programs checked typed sound

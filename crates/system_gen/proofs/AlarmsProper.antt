-- Alarms are proper in the system of a file that generation accepts: they have a counter, an action and a start.
use Rattle.std.proofs.Common.{◌≡◌, ℕ, true, ◌&&◌, List, [], ◌∷◌, map, length, refl, sym, ◌∙◌, ap}
use Rattle.std.specs.Prelude.{Option, Some, None, Ok, nat_lt}
use Rattle.std.specs.List.{list_any, list_all, AllByRecursion}
use Rattle.std.specs.Option.{option_map}
use Rattle.std.proofs.lemmas.Bool.{and_parts, and_from, and_left}
use Rattle.std.proofs.lemmas.List.{length-map}
use Rattle.osek_base.specs.Names.{is_named}
use Rattle.osek_base.specs.System.{counter, no_counter, is_extended}
use Rattle.osek_base.specs.Proper.{modes_exist, is_proper_action, is_proper_start, is_proper_alarm}
use Rattle.oil_reader.specs.declared.file.ActionObject.{ActionObject}
use Rattle.task_asm.specs.Programs.{Program}
use Rattle.oil_reader.specs.Configuration.{Configuration, AlarmRecord, AlarmStartRecord}
use Rattle.oil_reader.specs.Checked.{is_checked}
use Rattle.system_gen.specs.Checks as checks
use Rattle.system_gen.specs.Checks.{has_proper_start, has_proper_action, fits, fits_on, is_extended_named, alarm_fault}
use Rattle.system_gen.specs.DeclaredNames.{declared_in, number}
use Rattle.system_gen.specs.References.{first_of, action_reference, start_reference, alarm_reference}
use Rattle.system_gen.specs.Masks.{all_masks}
use Rattle.system_gen.specs.Generated.{known_of, masks_of, resolved_action, resolved_start, resolved_alarm}
use Rattle.system_gen.proofs.FaultLemmas.{none_of}
use Rattle.system_gen.proofs.NumberedNames.{number_below, numbers_below, at_number}
use Rattle.system_gen.proofs.ObjectsProper.{system_of, none_fails, none_has_fault, known_name, known_names, checked_lists, mask_of_proper}

module _ (f : Configuration) (programs : List Program) (checked : is_checked f ≡ true)
    (made : all_masks f.events ≡ Ok (masks_of f.events))
    (task_number : (name : List ℕ) → is_named name (declared_in f).tasks ≡ true
    → nat_lt (number (declared_in f).tasks name) (length (system_of f programs).tasks) ≡ true)
    (extended_task : (name : List ℕ) → list_any (is_extended_named name) f.tasks ≡ true
    → is_extended (system_of f programs) (number (declared_in f).tasks name) ≡ true) where
  alarm_counter : (name : List ℕ) → is_named name (declared_in f).counters ≡ true
      → nat_lt (number (declared_in f).counters name) (length (system_of f programs).counters) ≡ true
  alarm_counter name h =
      ap (nat_lt (number (declared_in f).counters name)) (length-map f.counters (λ c. c.counter) ∙ sym (length-map f.counters (λ c. c.name)))
      ∙ number_below (declared_in f).counters name h

  alarm_action : (action : ActionObject) → action_reference (declared_in f) action ≡ None → has_proper_action f.tasks action ≡ true
      → is_proper_action (system_of f programs) (resolved_action (known_of f) action) ≡ true
  alarm_action (ActionObject.ActivateTask task) known h = task_number task (known_name (declared_in f).tasks task known)
  alarm_action (ActionObject.SetEvent task event) known h =
      let names = none_of _ _ known in
      let number_low = task_number task (known_name (declared_in f).tasks task names.0) in
      let mask = mask_of_proper f checked made event (known_name (declared_in f).events event names.1) in
      and_from _ _ (and_from _ _ number_low (extended_task task h)) mask

  -- what fits the counter of that name fits the counter of its number
  fits_counter : (name : List ℕ) (start : AlarmStartRecord) → is_named name (declared_in f).counters ≡ true
      → list_any (fits_on name start) f.counters ≡ fits (counter (system_of f programs) (number (declared_in f).counters name)) start
  fits_counter name start declared =
      at_number (λ c. c.name) (λ c. c.counter) no_counter name (fits_on name start) (λ c. fits c start)
      (λ c e. ap (λ b. b && fits c.counter start) e) (λ c e. and_left _ _ e)
      f.counters (and_parts _ _ (and_parts _ _ (checked_lists f checked).counters).1).1 declared

  alarm_start : (name : List ℕ) → is_named name (declared_in f).counters ≡ true → (start : Option AlarmStartRecord)
      → start_reference (declared_in f) start ≡ None → has_proper_start f.counters name start ≡ true
      → is_proper_start (system_of f programs) (counter (system_of f programs) (number (declared_in f).counters name)) (option_map (resolved_start (known_of f)) start) ≡ true
  alarm_start name declared None known h = refl
  alarm_start name declared (Some start) known h =
      let modes : modes_exist (system_of f programs) (map (number (declared_in f).modes) start.app_modes) ≡ true =
      numbers_below (declared_in f).modes start.app_modes (length f.app_modes) refl (known_names (declared_in f).modes start.app_modes known) in
      and_from _ _ (sym (fits_counter name start declared) ∙ h) modes

  alarm_proper : (a : AlarmRecord) → alarm_reference (declared_in f) a ≡ None → checks.is_proper_alarm f a ≡ true
      → is_proper_alarm (system_of f programs) (resolved_alarm (known_of f) a) ≡ true
  alarm_proper a known h =
      let names = none_of _ _ known in
      let others = none_of _ _ names.1 in
      let declared = known_name (declared_in f).counters a.counter names.0 in
      let parts = and_parts _ _ h in
      and_from _ _ (and_from _ _ (alarm_counter a.counter declared) (alarm_action a.action others.0 parts.1))
      (alarm_start a.counter declared a.autostart others.1 parts.0)

  each_alarm : (alarms : List AlarmRecord) → AllByRecursion (λ a. alarm_reference (declared_in f) a ≡ None) alarms
      → list_all (checks.is_proper_alarm f) alarms ≡ true
      → list_all (is_proper_alarm (system_of f programs)) (map (resolved_alarm (known_of f)) alarms) ≡ true
  each_alarm [] known all = refl
  each_alarm (a ∷ alarms) known all =
      let parts = and_parts _ _ all in
      and_from _ _ (alarm_proper a known.0 parts.0) (each_alarm alarms known.1 parts.1)

  pub alarms_proper : first_of (alarm_reference (declared_in f)) f.alarms ≡ None → alarm_fault f f.alarms ≡ None
      → list_all (is_proper_alarm (system_of f programs)) (system_of f programs).alarms ≡ true
  alarms_proper known none =
      each_alarm f.alarms (none_has_fault (alarm_reference (declared_in f)) f.alarms known) (none_fails (checks.is_proper_alarm f) _ f.alarms none)

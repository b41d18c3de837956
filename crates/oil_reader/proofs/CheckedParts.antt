-- The parts of a file that was checked are checked.
use Rattle.std.proofs.Common.{◌≡◌, Bool, true, ◌&&◌}
use Rattle.oil_reader.specs.Configuration.{Configuration}
use Rattle.oil_reader.specs.Checked.{is_name, is_checked_os, are_checked_modes, are_checked_tasks, are_checked_isrs, are_checked_resources, are_checked_events, are_checked_counters, are_checked_alarms, is_checked, CheckedParts}
use Rattle.std.proofs.lemmas.Bool.{and_parts}

record AllNine (a b c d e f g h i : Bool) : Type 0 where
  pub cpu : a ≡ true
  pub os : b ≡ true
  pub app_modes : c ≡ true
  pub tasks : d ≡ true
  pub routines : e ≡ true
  pub resources : f ≡ true
  pub events : g ≡ true
  pub counters : h ≡ true
  pub alarms : i ≡ true

all_nine : (a b c d e f g h i : Bool) → (a && b && c && d && e && f && g && h && i) ≡ true → AllNine a b c d e f g h i
all_nine a b c d e f g h i all =
    let nine = and_parts (a && b && c && d && e && f && g && h) i all in
    let eight = and_parts (a && b && c && d && e && f && g) h nine.0 in
    let seven = and_parts (a && b && c && d && e && f) g eight.0 in
    let six = and_parts (a && b && c && d && e) f seven.0 in
    let five = and_parts (a && b && c && d) e six.0 in
    let four = and_parts (a && b && c) d five.0 in
    let three = and_parts (a && b) c four.0 in
    let two = and_parts a b three.0 in
    record { cpu = two.0; os = two.1; app_modes = three.1; tasks = four.1; routines = five.1; resources = six.1; events = seven.1; counters = eight.1; alarms = nine.1 }

pub checked_parts : (c : Configuration) → is_checked c ≡ true → CheckedParts c
checked_parts c h =
    let parts = all_nine (is_name c.cpu) (is_checked_os c.os) (are_checked_modes c.app_modes) (are_checked_tasks c.tasks) (are_checked_isrs c.routines)
    (are_checked_resources c.resources) (are_checked_events c.events) (are_checked_counters c.counters) (are_checked_alarms c.alarms) h in
    record {
      cpu = parts.cpu;
      os = parts.os;
      app_modes = parts.app_modes;
      tasks = parts.tasks;
      routines = parts.routines;
      resources = parts.resources;
      events = parts.events;
      counters = parts.counters;
      alarms = parts.alarms;
    }

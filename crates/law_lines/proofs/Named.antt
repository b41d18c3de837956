-- No name that a proper system has is longer than 32 bytes, and so is what stands for it.
use Rattle.std.proofs.Common.{ℕ, ◌≡◌, ◌≤◌, inl, inr, true, List, [], length, ap, arith}
use Rattle.std.specs.Prelude.{Option, Some, None, nat_le}
use Rattle.std.specs.List.{list_all}
use Rattle.std.proofs.lemmas.Bool.{cases_lt, and_parts, leb-true}
use Rattle.std.proofs.lemmas.List.{get_or_past}
use Rattle.osek_base.specs.declared.ids.Owner.{Owner}
use Rattle.osek_base.specs.declared.ids.ResId.{ResId}
use Rattle.osek_base.specs.declared.trace_event.Source.{Source}
use Rattle.osek_base.specs.Names.{Names, name_at, is_proper_name, are_distinct_names, owner_name}
use Rattle.osek_base.specs.Proper.{has_proper_names, are_proper_names}
use Rattle.osek_base.specs.Text.{task_text, resource_text, alarm_text, source_name}
use Rattle.osek_base.proofs.PlaceLemmas.{all_at}

-- also of a number that no object has, whose name is empty
abbrev AreShort : List (List ℕ) → Type 0
AreShort names = (n : ℕ) → length (name_at names n) ≤ 32

proper_short : (names : List (List ℕ)) → are_proper_names names ≡ true → AreShort names
proper_short names proper n = elim (cases_lt n (length names)) [
  | inl inside ↦
      let all = (and_parts (list_all is_proper_name names) (are_distinct_names names) proper).0 in
      leb-true _ _
      (and_parts (nat_le 1 (length (name_at names n))) _
      (all_at is_proper_name names n [] inside all)).1
  | inr past ↦ let none = ap length (get_or_past names n [] past) in omega (arith, none)
]

pub record HasShortNames (names : Names) : Type 0 where
  pub tasks : AreShort names.tasks
  pub routines : AreShort names.routines
  pub resources : AreShort names.resources
  pub alarms : AreShort names.alarms

pub short_names : (names : Names) → has_proper_names names ≡ true → HasShortNames names
short_names names proper =
    let but_modes = (and_parts _ (are_proper_names names.modes) proper).0 in
    let to_alarms = and_parts _ (are_proper_names names.alarms) but_modes in
    let to_events = and_parts _ (are_proper_names names.events) to_alarms.0 in
    let to_resources = and_parts _ (are_proper_names names.resources) to_events.0 in
    let first = and_parts (are_proper_names names.tasks)
    (are_proper_names names.routines) to_resources.0 in
    record {
      tasks = proper_short names.tasks first.0;
      routines = proper_short names.routines first.1;
      resources = proper_short names.resources to_resources.1;
      alarms = proper_short names.alarms to_alarms.1;
    }

module _ (names : Names) (short : HasShortNames names) where
  pub task_long : (t : Option ℕ) → length (task_text names t) ≤ 32
  task_long None = omega arith
  task_long (Some t) = short.tasks t

  pub resource_long : (r : Option ResId) → length (resource_text names r) ≤ 32
  resource_long None = omega arith
  resource_long (Some (ResId.Declared r)) = short.resources r
  resource_long (Some ResId.Scheduler) = omega arith

  pub alarm_long : (a : Option ℕ) → length (alarm_text names a) ≤ 32
  alarm_long None = omega arith
  alarm_long (Some a) = short.alarms a

  pub owner_long : (who : Owner) → length (owner_name names who) ≤ 32
  owner_long (Owner.Task t) = short.tasks t
  owner_long (Owner.Routine i) = short.routines i

  pub source_long : (who : Source) → length (source_name names who) ≤ 33
  source_long (Source.Owner who) = let long = owner_long who in omega (arith, long)
  source_long (Source.Alarm a) = let long = short.alarms a in omega (arith, long)

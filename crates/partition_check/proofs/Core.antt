-- The upper core beside its system: routines, alarms, and all of it.
use Rattle.std.proofs.Common.{◌≡◌, ℕ, zero, suc, ◌+◌, ◌<◌, true, false, nat_le, List, [], ◌∷◌, map, length, refl, sym, ◌∙◌, ap, arith}
use Rattle.std.specs.Prelude.{Option, Some, None, slice_get, slice_index_or}
use Rattle.std.specs.List.{find}
use Rattle.std.specs.Option.{option_map}
use Rattle.std.proofs.lemmas.List.{length-map}
use Rattle.osek_base.specs.declared.task.Schedule.{Schedule}
use Rattle.osek_base.specs.Names.{name_at}
use Rattle.osek_base.specs.System.{System, Routine, Alarm, task, alarm, counter, counter_of, no_alarm, no_counter, no_routine, lists_resource}
use Rattle.osek_base.specs.Ceiling.{declared_ceiling, internal_ceiling, internal_ceiling_by, is_internal}
use Rattle.osek_base.specs.Agree.{rank, is_upper_declared, renumbered, upper_routine, upper_resources, upper_alarms, upper_core, recounted, resource}
use Rattle.osek_base.specs.Upper.{is_upper_task, is_upper_alarm}
use Rattle.osek_base.specs.Proper.{IsProper}
use Rattle.osek_base.specs.Separable.{Separable}
use Rattle.partition_check.proofs.Ranks.{kept_at, at_map}
use Rattle.partition_check.proofs.Falling.{in_Contains, find_in}
use Rattle.partition_check.proofs.CoreFacts.{within, few, split, task_count, tasks, task_names, internal, ceilings, same_renumbered, lists_same, resource_names, resource_place, standard_same}
use Rattle.partition_check.proofs.Shared.{IsCounterpart, IsLow}

-- ---- lower tasks

below_false : (a b : ℕ) → b < a → nat_le a b ≡ false
below_false a b h = grind (arith, h)

module _ (S : System) (p : ℕ) (separable : Separable S p) where
  listed_below : (t r : ℕ) → t < length S.tasks → is_upper_task S p t ≡ false → lists_resource S t r ≡ true → declared_ceiling S r < p
  listed_below t r inside low listed = separable.resources t r (inside, low) (in_Contains r (task S t).resources listed)

  pub listed_low : (t r : ℕ) → t < length S.tasks → is_upper_task S p t ≡ false → lists_resource S t r ≡ true → is_upper_declared S p r ≡ false
  listed_low t r inside low listed = below_false p (declared_ceiling S r) (listed_below t r inside low listed)

  internal_found : (t c : ℕ) → t < length S.tasks → is_upper_task S p t ≡ false → (o : Option ℕ)
      → find (is_internal S) (task S t).resources ≡ o → option_map (declared_ceiling S) o ≡ Some c → c < p
  internal_found t c inside low None found e = absurd (grind arith)
  internal_found t c inside low (Some r) found e =
      let below_p : declared_ceiling S r < p = listed_below t r inside low (find_in (is_internal S) (task S t).resources r found) in
      let same : declared_ceiling S r ≡ c = some_same (declared_ceiling S r) c e in
      omega (arith, below_p, same)
    where
      some_same : (a b : ℕ) → Some a ≡ Some b → a ≡ b
      some_same a b h = grind arith

  internal_low : (t c : ℕ) → t < length S.tasks → is_upper_task S p t ≡ false → internal_ceiling S t ≡ Some c → c < p
  internal_low t c inside low e =
      let full : (task S t).schedule ≡ Schedule.Full = separable.full t (inside, low) in
      internal_found t c inside low (find (is_internal S) (task S t).resources) refl
      (ap (λ schedule. internal_ceiling_by S schedule (task S t).resources) (sym full) ∙ e)

pub low : (S : System) (p : ℕ) → IsProper S → Separable S p → IsLow S p
low S p proper separable = record { listed = listed_low S p separable; internal = internal_low S p separable }

-- ---- routines

pub routine_program : (S : System) (p : ℕ) (all : List Routine) (i : ℕ)
    → (slice_index_or (map (upper_routine S p) all) i no_routine).program ≡ map (renumbered S p) (slice_index_or all i no_routine).program
routine_program S p [] i = refl
routine_program S p (a ∷ all) zero = refl
routine_program S p (a ∷ all) (suc i) = routine_program S p all i

-- ---- alarms

recounted_length : (i : ℕ) (all : List Alarm) → length (recounted i all) ≡ length all
recounted_length i [] = refl
recounted_length i (a ∷ all) = ap suc (recounted_length (suc i) all)

pub get_map : {X Y : Type 0} (f : X → Y) (xs : List X) (i : ℕ) (x : X) → slice_get xs i ≡ Some x → slice_get (map f xs) i ≡ Some (f x)
get_map f [] i x h = absurd (grind arith)
get_map f (y ∷ xs) zero x h = ap (option_map f) h
get_map f (y ∷ xs) (suc i) x h = get_map f xs i x h

recounted_at : (i : ℕ) (all : List Alarm) (j : ℕ) (x : Alarm) → slice_get all j ≡ Some x
    → slice_index_or (recounted i all) j no_alarm ≡ record x { counter = i + j }
recounted_at i [] j x h = absurd (grind arith)
recounted_at i (a ∷ all) zero x h =
    let place : i ≡ i + zero = omega arith in
    let same : a ≡ x = grind arith in
    ap (λ n. record a { counter = n }) place ∙ ap (λ (b : Alarm). record b { counter = i + zero }) same
recounted_at i (a ∷ all) (suc j) x h =
    recounted_at (suc i) all j x h ∙ ap (λ n. record x { counter = n }) (omega arith)

module _ (S : System) (p : ℕ) where
  pub alarm_place : (a : ℕ) → a < length S.alarms → is_upper_alarm S p a ≡ true
      → slice_get (upper_alarms S p) (rank (is_upper_alarm S p) a) ≡ Some a
  alarm_place a inside high = kept_at (is_upper_alarm S p) (length S.alarms) a inside high

  core_alarm : (a : ℕ) → a < length S.alarms → is_upper_alarm S p a ≡ true
      → alarm (upper_core S p) (rank (is_upper_alarm S p) a) ≡ record (alarm S a) { counter = 0 + rank (is_upper_alarm S p) a }
  core_alarm a inside high =
      recounted_at 0 (map (alarm S) (upper_alarms S p)) (rank (is_upper_alarm S p) a) (alarm S a)
      (get_map (alarm S) (upper_alarms S p) (rank (is_upper_alarm S p) a) a (alarm_place a inside high))

  core_counter : (a : ℕ) → a < length S.alarms → is_upper_alarm S p a ≡ true
      → counter_of (upper_core S p) (rank (is_upper_alarm S p) a) ≡ counter_of S a
  core_counter a inside high =
      ap (λ (b : Alarm). counter (upper_core S p) b.counter) (core_alarm a inside high)
      ∙ ap (counter (upper_core S p)) (omega arith)
      ∙ at_map (counter_of S) (upper_alarms S p) (rank (is_upper_alarm S p) a) a no_counter (alarm_place a inside high)

-- ---- all of it

pub counterpart : (S : System) (p : ℕ) → IsProper S → Separable S p → IsCounterpart S p
counterpart S p proper separable =
    let lower = listed_low S p separable in
    record {
      within = within S p proper;
      few = few S p proper;
      split = split S p proper;
      task_count = task_count S p proper;
      tasks = tasks S p proper;
      task_names = task_names S p proper;
      internal = internal S p proper lower;
      ceilings = ceilings S p proper lower;
      same = same_renumbered S p;
      lists = lists_same S p proper;
      resource_names = resource_names S p proper;
      resource_count = length-map (upper_resources S p) (resource S);
      resource_at = resource_place S p proper;
      standard = standard_same S p proper lower;
      routine_programs = routine_program S p S.routines;
      alarm_count = recounted_length 0 (map (alarm S) (upper_alarms S p)) ∙ length-map (upper_alarms S p) (alarm S);
      alarm_at = alarm_place S p;
      actions = λ a inside high. ap (λ (b : Alarm). b.action) (core_alarm S p a inside high);
      counters = core_counter S p;
      alarm_names = λ a inside high. at_map (name_at S.names.alarms) (upper_alarms S p) (rank (is_upper_alarm S p) a) a [] (alarm_place S p a inside high);
    }

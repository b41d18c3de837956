-- The upper part of a proper and separable system is proper.
use Rattle.std.proofs.Common.{◌≡◌, ℕ, ◌<◌, Bool, true, not, nat_le, map, length, refl, sym, ◌∙◌, ap, arith}
use Rattle.std.specs.Prelude.{Option, Some, None, ◌==◌}
use Rattle.std.specs.List.{list_all}
use Rattle.std.proofs.lemmas.List.{length-map}
use Rattle.osek_base.specs.declared.limits.TheConstants.{MAX_TASKS, MAX_RESOURCES, MAX_ROUTINES, MAX_ALARMS}
use Rattle.osek_base.specs.declared.task.Action.{Action}
use Rattle.osek_base.specs.declared.task.Counter.{Counter}
use Rattle.osek_base.specs.Lists.{is_empty}
use Rattle.osek_base.specs.Names.{name_at}
use Rattle.osek_base.specs.System.{System, Task, AlarmStart, alarm, counter, no_alarm, is_extended}
use Rattle.osek_base.specs.Upper.{is_upper_task, is_upper_alarm, action_task}
use Rattle.osek_base.specs.Agree.{kept, is_upper_declared, upper_routine, upper_task, upper_tasks, upper_resources, upper_alarms, resource, upper_part}
use Rattle.osek_base.specs.Proper.{IsProper, is_proper_start, is_proper_action, is_proper_alarm, are_proper_names}
use Rattle.osek_base.specs.Separable.{Separable}
use Rattle.partition_check.proofs.UpperState.{upper_count}
use Rattle.partition_check.proofs.Falling.{all_at}
use Rattle.partition_check.proofs.Ranks.{rank_within}
use Rattle.partition_check.proofs.CoreFacts.{true_lt, split, tasks}
use Rattle.partition_check.proofs.Picked.{names_picked, le_within, all_kept_pass}
use Rattle.partition_check.proofs.PartInstrs.{task_new, routines_new}
use Rattle.partition_check.proofs.PartTasks.{falling_new, tasks_new}
use Rattle.std.proofs.lemmas.Bool.{and_parts, and_from}

same_length : (a b : ℕ) → a ≡ b → (a == b) ≡ true
same_length a b h = grind (arith, h)

pub equal_length : (a b : ℕ) → (a == b) ≡ true → a ≡ b
equal_length a b h = grind (arith, h)

start_new : (S : System) (p : ℕ) (c : Counter) (start : Option AlarmStart) → is_proper_start (upper_part S p) c start ≡ is_proper_start S c start
start_new S p c None = refl
start_new S p c (Some start) = refl

module _ (S : System) (p : ℕ) (proper : IsProper S) where
  -- ---- alarms

  pub each_alarm : list_all (is_proper_alarm S) S.alarms ≡ true
  each_alarm = (and_parts _ _ proper.objects).1

  extended_new : (t : ℕ) → t < upper_count S p → is_extended (upper_part S p) t ≡ is_extended S t
  extended_new t h = ap (λ (a : Task). not (is_empty a.events)) (tasks S p proper t h)

  action_new : (x : Action) → is_proper_action S x ≡ true → is_upper_task S p (action_task x) ≡ true → is_proper_action (upper_part S p) x ≡ true
  action_new (Action.ActivateTask t) h high = task_new S p proper t h high
  action_new (Action.SetEvent t m) h high =
      let both = and_parts _ _ h in
      let front = and_parts _ _ both.0 in
      let inside : t < upper_count S p = true_lt t (upper_count S p) (sym (split S p proper t (true_lt t (length S.tasks) front.0)) ∙ high) in
      and_from _ _ (and_from _ _ (task_new S p proper t front.0 high) (extended_new t inside ∙ front.1)) both.1

  alarm_proper : (a : ℕ) → a < length S.alarms → is_upper_alarm S p a ≡ true → is_proper_alarm (upper_part S p) (alarm S a) ≡ true
  alarm_proper a inside high =
      let whole : is_proper_alarm S (alarm S a) ≡ true = all_at (is_proper_alarm S) S.alarms a no_alarm each_alarm inside in
      let both = and_parts _ _ whole in
      let front = and_parts _ _ both.0 in
      and_from _ _ (and_from _ _ front.0 (action_new (alarm S a).action front.1 high))
      (start_new S p (counter S (alarm S a).counter) (alarm S a).autostart ∙ both.1)

  alarms_new : list_all (is_proper_alarm (upper_part S p)) (upper_part S p).alarms ≡ true
  alarms_new = all_kept_pass (is_proper_alarm (upper_part S p)) (alarm S) (is_upper_alarm S p) (length S.alarms) alarm_proper

  -- ---- how many

  shorter : {X : Type 0} (f : ℕ → X) (test : ℕ → Bool) (n k : ℕ) → nat_le n k ≡ true → nat_le (length (map f (kept test n))) k ≡ true
  shorter f test n k h = le_within (length (map f (kept test n))) n k h (omega (arith, length-map (kept test n) f, rank_within test n))

  limits_new : Separable S p → IsProper (upper_part S p)
  limits_new separable =
      let modes = and_parts _ _ proper.limits in
      let some = and_parts _ _ modes.0 in
      let alarms = and_parts _ _ some.0 in
      let counters = and_parts _ _ alarms.0 in
      let events = and_parts _ _ counters.0 in
      let resources = and_parts _ _ events.0 in
      let routines = and_parts _ _ resources.0 in
      let named_alarms = and_parts _ _ proper.named in
      let named_events = and_parts _ _ named_alarms.0 in
      let named_resources = and_parts _ _ named_events.0 in
      let named_routines = and_parts _ _ named_resources.0 in
      let name_modes = and_parts _ _ proper.names in
      let name_alarms = and_parts _ _ name_modes.0 in
      let name_events = and_parts _ _ name_alarms.0 in
      let name_resources = and_parts _ _ name_events.0 in
      let name_routines = and_parts _ _ name_resources.0 in
      let last = and_parts _ _ proper.objects in
      let fifth = and_parts _ _ last.0 in
      let fourth = and_parts _ _ fifth.0 in
      let many_routines : length (map (upper_routine S p) S.routines) ≡ length S.routines = length-map S.routines (upper_routine S p) in
      record {
        limits =
            and_from _ _ (and_from _ _ (and_from _ _ (and_from _ _ (and_from _ _ (and_from _ _ (and_from _ _
            (shorter (upper_task S p) (is_upper_task S p) (length S.tasks) MAX_TASKS routines.0)
            (ap (λ n. nat_le n MAX_ROUTINES) many_routines ∙ routines.1))
            (shorter (resource S) (is_upper_declared S p) (length S.resources) MAX_RESOURCES resources.1))
            events.1) counters.1)
            (shorter (alarm S) (is_upper_alarm S p) (length S.alarms) MAX_ALARMS alarms.1))
            some.1) modes.1;
        named =
            and_from _ _ (and_from _ _ (and_from _ _ (and_from _ _
            (same_length _ _ (length-map (upper_tasks S p) (name_at S.names.tasks) ∙ sym (length-map (upper_tasks S p) (upper_task S p))))
            (same_length _ _ (equal_length _ _ named_routines.1 ∙ sym many_routines)))
            (same_length _ _ (length-map (upper_resources S p) (name_at S.names.resources) ∙ sym (length-map (upper_resources S p) (resource S)))))
            named_events.1)
            (same_length _ _ (length-map (upper_alarms S p) (name_at S.names.alarms) ∙ sym (length-map (upper_alarms S p) (alarm S))));
        names =
            and_from _ _ (and_from _ _ (and_from _ _ (and_from _ _ (and_from _ _
            (ap (λ n. are_proper_names (map (name_at S.names.tasks) (kept (is_upper_task S p) n))) (sym (equal_length _ _ named_routines.0))
            ∙ names_picked (is_upper_task S p) S.names.tasks name_routines.0)
            name_routines.1)
            (ap (λ n. are_proper_names (map (name_at S.names.resources) (kept (is_upper_declared S p) n))) (sym (equal_length _ _ named_resources.1))
            ∙ names_picked (is_upper_declared S p) S.names.resources name_resources.1))
            name_events.1)
            (ap (λ n. are_proper_names (map (name_at S.names.alarms) (kept (is_upper_alarm S p) n))) (sym (equal_length _ _ named_alarms.1))
            ∙ names_picked (is_upper_alarm S p) S.names.alarms name_alarms.1))
            name_modes.1;
        objects =
            and_from _ _ (and_from _ _ (and_from _ _ (and_from _ _ (and_from _ _
            (falling_new S p proper) (tasks_new S p proper separable)) (routines_new S p proper separable))
            fourth.1) fifth.1) alarms_new;
      }

pub part_is_proper : (S : System) (p : ℕ) → IsProper S → Separable S p → IsProper (upper_part S p)
part_is_proper S p proper separable = limits_new S p proper separable

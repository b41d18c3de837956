-- All of the upper part is upper, so it is its own upper part: it agrees with its system, and is separable.
use Rattle.std.proofs.Common.{◌≡◌, ℕ, zero, suc, ◌<◌, true, false, nat_le, List, [], ◌∷◌, map, length, refl, sym, ◌∙◌, ap, subst, arith}
use Rattle.std.specs.Prelude.{Some, slice_get}
use Rattle.std.proofs.lemmas.List.{length-map}
use Rattle.osek_base.specs.declared.ids.Owner.{Owner}
use Rattle.osek_base.specs.declared.instr.Service.{Service}
use Rattle.osek_base.specs.declared.instr.Instr.{Instr}
use Rattle.osek_base.specs.declared.task.Action.{Action}
use Rattle.osek_base.specs.Lists.{below}
use Rattle.osek_base.specs.System.{System, Task, Alarm, alarm, counter, counter_of, no_alarm, routine}
use Rattle.osek_base.specs.Ceiling.{declared_ceiling}
use Rattle.osek_base.specs.Upper.{is_upper_task, is_upper_alarm, action_task}
use Rattle.osek_base.specs.Agree.{Agree, HasUpperTasks, rank, is_upper_declared, renumbered, upper_routine, upper_alarms, upper_part, uncounted}
use Rattle.osek_base.specs.Proper.{IsProper, is_proper_action, is_proper_alarm}
use Rattle.osek_base.specs.Separable.{Separable, NoInstruction, asks_task_id}
use Rattle.osek_base.specs.Laws.{IsItsUpperPart}
use Rattle.partition_check.proofs.UpperState.{upper_count}
use Rattle.partition_check.proofs.Ranks.{at_map, all_kept}
use Rattle.partition_check.proofs.Falling.{all_at}
use Rattle.partition_check.proofs.CoreFacts.{true_lt, lt_true, within, split, is_upper, task_count, tasks, task_names, declared_same, upper_same, resource_numbers}
use Rattle.partition_check.proofs.Core.{listed_low, alarm_place, routine_program}
use Rattle.partition_check.proofs.Renumbering.{map_ranked}
use Rattle.partition_check.proofs.Isolated.{isolated}
use Rattle.partition_check.proofs.Picked.{each_ranked}
use Rattle.partition_check.proofs.PartProper.{part_is_proper, each_alarm}
use Rattle.partition_check.proofs.Whole.{IsWhole, whole_part, whole_separable}
use Rattle.std.proofs.lemmas.Bool.{and_parts}

some_same : (a b : Instr) → Some a ≡ Some b → a ≡ b
some_same a b h = grind arith

-- ---- no routine asks which task runs

asks_same : (S : System) (p : ℕ) (x : Instr) → asks_task_id (renumbered S p x) ≡ asks_task_id x
asks_same S p (Instr.Plain x) = refl
asks_same S p (Instr.Control x) = refl
asks_same S p (Instr.Service (Service.ActivateTask t)) = refl
asks_same S p (Instr.Service Service.TerminateTask) = refl
asks_same S p (Instr.Service (Service.ChainTask t)) = refl
asks_same S p (Instr.Service Service.Schedule) = refl
asks_same S p (Instr.Service Service.GetTaskId) = refl
asks_same S p (Instr.Service (Service.GetTaskState t)) = refl
asks_same S p (Instr.Service (Service.GetResource r)) = refl
asks_same S p (Instr.Service (Service.ReleaseResource r)) = refl
asks_same S p (Instr.Service (Service.LoadShared r x)) = refl
asks_same S p (Instr.Service (Service.StoreShared r x y)) = refl
asks_same S p (Instr.Service (Service.SetEvent t m)) = refl
asks_same S p (Instr.Service (Service.ClearEvent m)) = refl
asks_same S p (Instr.Service (Service.GetEvent t)) = refl
asks_same S p (Instr.Service (Service.WaitEvent m)) = refl
asks_same S p (Instr.Service (Service.SetRelAlarm a x y)) = refl
asks_same S p (Instr.Service (Service.SetAbsAlarm a x y)) = refl
asks_same S p (Instr.Service (Service.CancelAlarm a)) = refl
asks_same S p (Instr.Service (Service.GetAlarm a)) = refl
asks_same S p (Instr.Service (Service.GetAlarmBase a)) = refl

asks_not : (S : System) (p : ℕ) (xs : List Instr) → ((place : ℕ) (x : Instr) → slice_get xs place ≡ Some x → asks_task_id x ≡ false)
    → (place : ℕ) (y : Instr) → slice_get (map (renumbered S p) xs) place ≡ Some y → asks_task_id y ≡ false
asks_not S p [] none place y e = absurd (grind arith)
asks_not S p (x ∷ xs) none zero y e =
    let same : renumbered S p x ≡ y = some_same (renumbered S p x) y e in
    subst (λ z. asks_task_id z ≡ false) same (asks_same S p x ∙ none zero x refl)
asks_not S p (x ∷ xs) none (suc place) y e = asks_not S p xs (λ i z h. none (suc i) z h) place y e

-- ---- its tasks, of every proper system

module _ (S : System) (p : ℕ) (proper : IsProper S) where
  inside_count : (t : ℕ) → t < length (upper_part S p).tasks → t < upper_count S p
  inside_count t h = subst (λ n. t < n) (task_count S p proper) h

  pub has_upper_tasks : HasUpperTasks S (upper_part S p) p
  has_upper_tasks =
      record {
        exactly = λ t. (
          (λ h.
              let inside : t < length S.tasks = omega (arith, inside_count t h, within S p proper) in
              (inside, split S p proper t inside ∙ lt_true t (upper_count S p) (inside_count t h))),
          (λ h. subst (λ n. t < n) (sym (task_count S p proper)) (true_lt t (upper_count S p) (sym (split S p proper t h.0) ∙ h.1))),
        );
        same = λ t h. tasks S p proper t (inside_count t h);
        names = λ t h. task_names S p proper t (inside_count t h);
      }

  -- ---- all of it is upper

  task_high : (t : ℕ) → t < length (upper_part S p).tasks → is_upper_task (upper_part S p) p t ≡ true
  task_high t h =
      ap (λ (a : Task). nat_le p a.priority) (tasks S p proper t (inside_count t h)) ∙ is_upper S p proper t (inside_count t h)

  alarm_new_at : (a : ℕ) → a < length S.alarms → is_upper_alarm S p a ≡ true → alarm (upper_part S p) (rank (is_upper_alarm S p) a) ≡ alarm S a
  alarm_new_at a inside high =
      at_map (alarm S) (upper_alarms S p) (rank (is_upper_alarm S p) a) a no_alarm (alarm_place S p a inside high)

  known_action : (x : Action) → is_proper_action S x ≡ true → action_task x < length S.tasks
  known_action (Action.ActivateTask t) h = true_lt t (length S.tasks) h
  known_action (Action.SetEvent t m) h = true_lt t (length S.tasks) (and_parts _ _ (and_parts _ _ h).0).0

  acts_known : (a : ℕ) → a < length S.alarms → action_task (alarm S a).action < length S.tasks
  acts_known a inside =
      known_action (alarm S a).action
      (and_parts _ _ (and_parts _ _ (all_at (is_proper_alarm S) S.alarms a no_alarm (each_alarm S p proper) inside)).0).1

  alarm_high_at : (a : ℕ) → a < length S.alarms → is_upper_alarm S p a ≡ true → is_upper_alarm (upper_part S p) p (rank (is_upper_alarm S p) a) ≡ true
  alarm_high_at a inside high =
      let t : ℕ = action_task (alarm S a).action in
      let counted : t < upper_count S p = true_lt t (upper_count S p) (sym (split S p proper t (acts_known a inside)) ∙ high) in
      ap (λ (b : Alarm). is_upper_task (upper_part S p) p (action_task b.action)) (alarm_new_at a inside high)
      ∙ task_high t (subst (λ n. t < n) (sym (task_count S p proper)) counted)

  module _ (separable : Separable S p) where
    ceiling_same : (r : ℕ) → is_upper_declared S p r ≡ true
        → declared_ceiling (upper_part S p) (rank (is_upper_declared S p) r) ≡ declared_ceiling S r
    ceiling_same r high = declared_same S p proper (listed_low S p separable) r high

    pub all_upper : IsWhole (upper_part S p) p
    all_upper =
        record {
          tasks = task_high;
          resources = upper_same S p proper (listed_low S p separable);
          alarms = λ a h.
              each_ranked (λ i. is_upper_alarm (upper_part S p) p i ≡ true) (is_upper_alarm S p) (length S.alarms)
              alarm_high_at
              a (subst (λ n. a < n) (length-map (upper_alarms S p) (alarm S)) h);
        }

    pub part_proper : IsProper (upper_part S p)
    part_proper = part_is_proper S p proper separable

    -- the upper part of the upper part is the upper part
    pub twice : upper_part (upper_part S p) p ≡ upper_part S p
    twice = whole_part (upper_part S p) p part_proper all_upper

    -- ---- it agrees with its system

    alarm_numbers : upper_alarms (upper_part S p) p ≡ below (rank (is_upper_alarm S p) (length S.alarms))
    alarm_numbers =
        all_kept (is_upper_alarm (upper_part S p) p) (length (upper_part S p).alarms) all_upper.alarms
        ∙ ap below (length-map (upper_alarms S p) (alarm S))

    pub part_agrees : Agree S (upper_part S p) p
    part_agrees =
        record {
          names = ap (λ (T : System). record T.names { events = [] }) (sym twice);
          tasks = ap (λ (T : System). T.tasks) (sym twice);
          routines = ap (λ (T : System). T.routines) (sym twice);
          resources = ap (λ (T : System). T.resources) (sym twice);
          ceilings =
              sym (ap (map (declared_ceiling (upper_part S p))) (resource_numbers S p proper (listed_low S p separable))
              ∙ map_ranked (declared_ceiling S) (declared_ceiling (upper_part S p)) (is_upper_declared S p) (length S.resources)
              (λ a inside high. ceiling_same a high));
          alarms = ap (λ (T : System). map uncounted T.alarms) (sym twice);
          counters =
              sym (ap (map (counter_of (upper_part S p))) alarm_numbers
              ∙ map_ranked (counter_of S) (counter_of (upper_part S p)) (is_upper_alarm S p) (length S.alarms)
              (λ a inside high. ap (λ (b : Alarm). counter S b.counter) (alarm_new_at a inside high)));
          hooks = refl;
          use_res_scheduler = refl;
        }

    -- ---- it is separable

    asks_none : (i : ℕ) → i < length (upper_part S p).routines → NoInstruction (upper_part S p) (Owner.Routine i) asks_task_id
    asks_none i inside place x e =
        asks_not S p (routine S i).program
        (separable.no_task_id i (subst (λ n. i < n) (length-map S.routines (upper_routine S p)) inside))
        place x (ap (λ all. slice_get all place) (sym (routine_program S p S.routines i)) ∙ e)

    pub part_separable : Separable (upper_part S p) p
    part_separable = whole_separable (upper_part S p) p part_proper all_upper asks_none

    -- ---- it shows what its system shows

    pub its_upper_part : IsItsUpperPart S p
    its_upper_part = isolated S p proper separable (upper_part S p) part_proper part_separable part_agrees

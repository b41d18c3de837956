-- The tasks of the upper part: what is proper stays proper.
use Rattle.std.proofs.Common.{◌≡◌, ℕ, ◌<◌, Bool, true, false, cond, not, ◌&&◌, ◌||◌, nat_lt, nat_le, List, [], ◌∷◌, map, length, refl, sym, ◌∙◌, ap, ap₂}
use Rattle.std.specs.List.{list_all, list_any, AllByRecursion}
use Rattle.osek_base.specs.declared.limits.TheConstants.{MAX_TASK_PRIORITY}
use Rattle.osek_base.specs.declared.ids.Owner.{Owner}
use Rattle.osek_base.specs.declared.task.Schedule.{Schedule}
use Rattle.osek_base.specs.System.{System, task, no_task}
use Rattle.osek_base.specs.Ceiling.{is_internal}
use Rattle.osek_base.specs.Classes.{are_distinct}
use Rattle.osek_base.specs.Upper.{is_upper_task}
use Rattle.osek_base.specs.Agree.{rank, is_upper_declared, upper_task, upper_tasks, upper_part}
use Rattle.osek_base.specs.Proper.{IsProper, is_proper_task, are_falling, are_proper_resources, is_single_internal, has_two}
use Rattle.osek_base.specs.Separable.{Separable}
use Rattle.partition_check.proofs.UpperState.{upper_count}
use Rattle.partition_check.proofs.Falling.{all_at, each_in}
use Rattle.partition_check.proofs.CoreFacts.{true_lt, lt_true, falling, each_task, split, listed_upper, listed_known, internal_same, in_rank}
use Rattle.partition_check.proofs.Picked.{picked_kept, falling_picked, all_kept_pass}
use Rattle.partition_check.proofs.PartInstrs.{resource_new, program_new}
use Rattle.std.proofs.lemmas.Bool.{and_parts, and_from}

-- ---- tests of numbers under new numbers

module _ (test test' : ℕ → Bool) (new : ℕ → ℕ) where
  any_new : (ns : List ℕ) → AllByRecursion (λ n. test' (new n) ≡ test n) ns → list_any test' (map new ns) ≡ list_any test ns
  any_new [] all = refl
  any_new (n ∷ ns) all = ap₂ (λ a b. a || b) all.0 (any_new ns all.1)

  two_new : (ns : List ℕ) → AllByRecursion (λ n. test' (new n) ≡ test n) ns → has_two test' (map new ns) ≡ has_two test ns
  two_new [] all = refl
  two_new (n ∷ ns) all =
      ap (λ b. cond b (list_any test' (map new ns)) (has_two test' (map new ns))) all.0
      ∙ ap₂ (λ a b. cond (test n) a b) (any_new ns all.1) (two_new ns all.1)

  all_new : (ns : List ℕ) → AllByRecursion (λ n. test' (new n) ≡ true) ns → list_all test' (map new ns) ≡ true
  all_new [] all = refl
  all_new (n ∷ ns) all = and_from (test' (new n)) (list_all test' (map new ns)) all.0 (all_new ns all.1)

distinct_new : (test : ℕ → Bool) (ns : List ℕ) → AllByRecursion (λ n. test n ≡ true) ns → are_distinct (map (rank test) ns) ≡ are_distinct ns
distinct_new test [] all = refl
distinct_new test (n ∷ ns) all = ap₂ (λ a b. not a && b) (in_rank test n ns all.0 all.1) (distinct_new test ns all.1)

-- the record that the upper part makes of a task keeps its priority
falling_tasks : (S : System) (p : ℕ) (limit : ℕ) (ns : List ℕ) → are_falling limit (map (upper_task S p) ns) ≡ are_falling limit (map (task S) ns)
falling_tasks S p limit [] = refl
falling_tasks S p limit (n ∷ ns) = ap (λ b. nat_le (task S n).priority limit && b) (falling_tasks S p (task S n).priority ns)

module _ (S : System) (p : ℕ) (proper : IsProper S) where
  pub falling_new : are_falling MAX_TASK_PRIORITY (upper_part S p).tasks ≡ true
  falling_new =
      falling_tasks S p MAX_TASK_PRIORITY (upper_tasks S p)
      ∙ ap (are_falling MAX_TASK_PRIORITY) (picked_kept S.tasks no_task (is_upper_task S p))
      ∙ falling_picked MAX_TASK_PRIORITY (is_upper_task S p) S.tasks (falling S p proper)

  module _ (t : ℕ) (inside : t < length S.tasks) (high : is_upper_task S p t ≡ true) where
    below_count : t < upper_count S p
    below_count = true_lt t (upper_count S p) (sym (split S p proper t inside) ∙ high)

    each_listed : (P : ℕ → Type 0) → ((r : ℕ) → r < length S.resources → is_upper_declared S p r ≡ true → P r) → AllByRecursion P (task S t).resources
    each_listed P each =
        each_in P (task S t).resources
        (λ r e. each r (listed_known S p proper t r inside e) (listed_upper S p proper t r below_count e))

    internal_each : AllByRecursion (λ r. is_internal (upper_part S p) (rank (is_upper_declared S p) r) ≡ is_internal S r) (task S t).resources
    internal_each = each_listed (λ r. is_internal (upper_part S p) (rank (is_upper_declared S p) r) ≡ is_internal S r) (λ r known pass. internal_same S p proper r known pass)

    single_by : (schedule : Schedule)
        → is_single_internal (upper_part S p) schedule (map (rank (is_upper_declared S p)) (task S t).resources)
        ≡ is_single_internal S schedule (task S t).resources
    single_by Schedule.Full = ap not (two_new (is_internal S) (is_internal (upper_part S p)) (rank (is_upper_declared S p)) (task S t).resources internal_each)
    single_by Schedule.Non = ap not (any_new (is_internal S) (is_internal (upper_part S p)) (rank (is_upper_declared S p)) (task S t).resources internal_each)

    resources_new : are_proper_resources S (task S t).schedule (task S t).resources ≡ true
        → are_proper_resources (upper_part S p) (task S t).schedule (map (rank (is_upper_declared S p)) (task S t).resources) ≡ true
    resources_new h =
        let both = and_parts _ _ h in
        let front = and_parts _ _ both.0 in
        and_from _ _
        (and_from _ _
        (all_new (λ r. true) (λ r. nat_lt r (length (upper_part S p).resources)) (rank (is_upper_declared S p)) (task S t).resources
        (each_listed (λ r. nat_lt (rank (is_upper_declared S p) r) (length (upper_part S p).resources) ≡ true)
        (λ r known pass. resource_new S p proper r (lt_true r (length S.resources) known) pass)))
        (distinct_new (is_upper_declared S p) (task S t).resources (each_listed (λ r. is_upper_declared S p r ≡ true) (λ r known pass. pass)) ∙ front.1))
        (single_by (task S t).schedule ∙ both.1)

    task_proper : Separable S p → is_proper_task (upper_part S p) (upper_task S p t) ≡ true
    task_proper separable =
        let whole : is_proper_task S (task S t) ≡ true = all_at (is_proper_task S) S.tasks t no_task (each_task S p proper) inside in
        let last = and_parts _ _ whole in
        let third = and_parts _ _ last.0 in
        and_from _ _ (and_from _ _ third.0 (resources_new third.1))
        (program_new S p proper false (task S t).program last.1
        (λ place x e. separable.upper_names (Owner.Task t) inside high place x e))

  pub tasks_new : Separable S p → list_all (is_proper_task (upper_part S p)) (upper_part S p).tasks ≡ true
  tasks_new separable =
      all_kept_pass (is_proper_task (upper_part S p)) (upper_task S p) (is_upper_task S p) (length S.tasks)
      (λ t inside high. task_proper t inside high separable)

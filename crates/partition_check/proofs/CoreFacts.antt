-- The upper core beside its system: tasks, ceilings, and what tasks list.
use Rattle.std.proofs.Common.{◌≡◌, ℕ, ◌<◌, ◌≤◌, Bool, true, false, not, ◌||◌, nat_lt, nat_le, List, [], ◌∷◌, map, length, refl, sym, ◌∙◌, ap, ap₂, subst, arith}
use Rattle.std.specs.Prelude.{Some, slice_get, slice_index_or}
use Rattle.std.specs.List.{filter, list_all, AllByRecursion}
use Rattle.std.proofs.lemmas.List.{length-map}
use Rattle.osek_base.specs.declared.limits.TheConstants.{MAX_TASKS, MAX_TASK_PRIORITY}
use Rattle.osek_base.specs.declared.ids.ResId.{ResId}
use Rattle.osek_base.specs.declared.task.Property.{Property}
use Rattle.osek_base.specs.declared.task.Schedule.{Schedule}
use Rattle.osek_base.specs.Lists.{below, greatest, is_in, same_resource}
use Rattle.osek_base.specs.Names.{name_at}
use Rattle.osek_base.specs.System.{System, Task, task, no_task, priority_of, lists, lists_resource}
use Rattle.osek_base.specs.Ceiling.{declared_ceiling, top_priority, ceiling, internal_ceiling, internal_ceiling_by, is_internal, is_internal_property}
use Rattle.osek_base.specs.Agree.{kept, rank, is_upper_declared, renumbered_resource, upper_task, upper_tasks, upper_resources, upper_core, resource}
use Rattle.osek_base.specs.Upper.{is_upper_task}
use Rattle.osek_base.specs.View.{upper_standard}
use Rattle.osek_base.specs.Proper.{IsProper, is_proper_task, are_falling, are_proper_resources}
use Rattle.partition_check.proofs.UpperState.{upper_count}
use Rattle.partition_check.proofs.Ranks.{clash, rank_same, rank_within, kept_at, below_at, at_map, IsFirstly, first_kept, first_split, all_kept}
use Rattle.partition_check.proofs.Falling.{all_at, greatest_first, ceiling_kept, top_kept, kept_short, kept_same, map_kept, map_below, falling_pair, ceiling_covers, each_in, in_Contains, find_renumbered}
use Rattle.partition_check.proofs.Renumbering.{filter_ranked}
use Rattle.partition_check.proofs.ListsUp.{filter_swap}
use Rattle.partition_check.proofs.Picked.{each_ranked}
use Rattle.partition_check.proofs.Shared.{is_visible}
use Rattle.std.proofs.lemmas.Bool.{and_parts, false_from_ne_true}

pub lt_true : (a b : ℕ) → a < b → nat_lt a b ≡ true
lt_true a b h = grind (arith, h)

pub lt_false : (a b : ℕ) → b ≤ a → nat_lt a b ≡ false
lt_false a b h = grind (arith, h)

pub true_lt : (a b : ℕ) → nat_lt a b ≡ true → a < b
true_lt a b h = grind (arith, h)

pub true_le : (a b : ℕ) → nat_le a b ≡ true → a ≤ b
true_le a b h = grind (arith, h)

pub le_up : (a b c : ℕ) → nat_le a b ≡ true → b ≤ c → nat_le a c ≡ true
le_up a b c h k = grind (arith, h, k)

-- in a list of numbers that pass, under their new numbers
pub in_rank : (test : ℕ → Bool) (r : ℕ) (ns : List ℕ) → test r ≡ true → AllByRecursion (λ n. test n ≡ true) ns
    → is_in (rank test r) (map (rank test) ns) ≡ is_in r ns
in_rank test r [] pass all = refl
in_rank test r (n ∷ ns) pass all = ap₂ (λ a b. a || b) (rank_same test n r all.0 pass) (in_rank test r ns pass all.1)

module _ (S : System) (p : ℕ) (proper : IsProper S) where
  pub falling : are_falling MAX_TASK_PRIORITY S.tasks ≡ true
  falling = (and_parts _ _ (and_parts _ _ (and_parts _ _ (and_parts _ _ (and_parts _ _ proper.objects).0).0).0).0).0

  pub each_task : list_all (is_proper_task S) S.tasks ≡ true
  each_task = (and_parts _ _ (and_parts _ _ (and_parts _ _ (and_parts _ _ (and_parts _ _ proper.objects).0).0).0).0).1

  pub firstly : IsFirstly (is_upper_task S p) (length S.tasks)
  firstly a b le inside h = grind (arith, falling_pair MAX_TASK_PRIORITY S.tasks a b falling le inside)

  pub upper_tasks_first : upper_tasks S p ≡ below (upper_count S p)
  upper_tasks_first = first_kept (is_upper_task S p) (length S.tasks) firstly

  pub within : upper_count S p ≤ length S.tasks
  within = rank_within (is_upper_task S p) (length S.tasks)

  pub few : upper_count S p ≤ MAX_TASKS
  few =
      let limit : nat_le (length S.tasks) MAX_TASKS ≡ true =
      (and_parts _ _ (and_parts _ _ (and_parts _ _ (and_parts _ _ (and_parts _ _ (and_parts _ _ (and_parts _ _ proper.limits).0).0).0).0).0).0).0 in
      let small : length S.tasks ≤ MAX_TASKS = true_le (length S.tasks) MAX_TASKS limit in
      omega (arith, within, small)

  pub split : (t : ℕ) → t < length S.tasks → is_upper_task S p t ≡ nat_lt t (upper_count S p)
  split = first_split (is_upper_task S p) (length S.tasks) firstly

  pub is_upper : (t : ℕ) → t < upper_count S p → is_upper_task S p t ≡ true
  is_upper t h = split t (omega (arith, within, h)) ∙ lt_true t (upper_count S p) h

  pub task_count : length (upper_core S p).tasks ≡ upper_count S p
  task_count = length-map (upper_tasks S p) (upper_task S p)

  pub tasks : (t : ℕ) → t < upper_count S p → task (upper_core S p) t ≡ upper_task S p t
  tasks t h =
      at_map (upper_task S p) (upper_tasks S p) t t no_task
      (ap (λ ns. slice_get ns t) upper_tasks_first ∙ below_at (upper_count S p) t h)

  pub task_names : (t : ℕ) → t < upper_count S p → name_at (upper_core S p).names.tasks t ≡ name_at S.names.tasks t
  task_names t h =
      at_map (name_at S.names.tasks) (upper_tasks S p) t t []
      (ap (λ ns. slice_get ns t) upper_tasks_first ∙ below_at (upper_count S p) t h)

  -- ---- what tasks list

  pub listed_upper : (t r : ℕ) → t < upper_count S p → lists_resource S t r ≡ true → is_upper_declared S p r ≡ true
  listed_upper t r h listed =
      le_up p (priority_of S t) (declared_ceiling S r) (is_upper t h) (ceiling_covers r S.tasks t (omega (arith, h, within)) listed)

  pub lists_same : (t r : ℕ) → t < upper_count S p → is_upper_declared S p r ≡ true
      → lists_resource (upper_core S p) t (rank (is_upper_declared S p) r) ≡ lists_resource S t r
  lists_same t r h pass =
      ap (lists (rank (is_upper_declared S p) r)) (tasks t h)
      ∙ in_rank (is_upper_declared S p) r (task S t).resources pass
      (each_in (λ n. is_upper_declared S p n ≡ true) (task S t).resources (λ n e. listed_upper t n h e))

  -- a listed resource exists
  pub listed_known : (t r : ℕ) → t < length S.tasks → lists_resource S t r ≡ true → r < length S.resources
  listed_known t r h listed =
      let here : is_proper_task S (task S t) ≡ true = all_at (is_proper_task S) S.tasks t no_task each_task h in
      let resources : are_proper_resources S (task S t).schedule (task S t).resources ≡ true =
      (and_parts _ _ (and_parts _ _ here).0).1 in
      let known : list_all (λ n. nat_lt n (length S.resources)) (task S t).resources ≡ true =
      (and_parts _ _ (and_parts _ _ resources).0).0 in
      let place = in_Contains r (task S t).resources listed in
      let small : nat_lt (slice_index_or (task S t).resources place.0 r) (length S.resources) ≡ true =
      all_at (λ n. nat_lt n (length S.resources)) (task S t).resources place.0 r known place.1 in
      true_lt r (length S.resources) (ap (λ n. nat_lt n (length S.resources)) (sym place.2) ∙ small)

  pub resource_place : (r : ℕ) → r < length S.resources → is_upper_declared S p r ≡ true
      → slice_get (upper_resources S p) (rank (is_upper_declared S p) r) ≡ Some r
  resource_place r h pass = kept_at (is_upper_declared S p) (length S.resources) r h pass

  pub resource_names : (r : ℕ) → r < length S.resources → is_upper_declared S p r ≡ true
      → name_at (upper_core S p).names.resources (rank (is_upper_declared S p) r) ≡ name_at S.names.resources r
  resource_names r h pass =
      at_map (name_at S.names.resources) (upper_resources S p) (rank (is_upper_declared S p) r) r [] (resource_place r h pass)

  pub internal_same : (r : ℕ) → r < length S.resources → is_upper_declared S p r ≡ true
      → is_internal (upper_core S p) (rank (is_upper_declared S p) r) ≡ is_internal S r
  internal_same r h pass =
      ap is_internal_property (at_map (resource S) (upper_resources S p) (rank (is_upper_declared S p) r) r Property.Standard
      (resource_place r h pass))

  -- ---- ceilings

  priorities : (t : ℕ) → t < upper_count S p → priority_of (upper_core S p) t ≡ priority_of S t
  priorities t h = ap (λ (a : Task). a.priority) (tasks t h)

  top_same : 0 < upper_count S p → top_priority (upper_core S p) ≡ top_priority S
  top_same some =
      top_kept (upper_core S p)
      ∙ ap (λ n. greatest (map (priority_of (upper_core S p)) (below n))) task_count
      ∙ ap greatest (map_below (priority_of (upper_core S p)) (priority_of S) (upper_count S p) priorities)
      ∙ greatest_first (priority_of S) (upper_count S p) some
      (λ t h. falling_pair MAX_TASK_PRIORITY S.tasks 0 t falling (omega arith) (omega (arith, h, within)))
      ∙ sym (greatest_first (priority_of S) (length S.tasks) (omega (arith, some, within))
      (λ t h. falling_pair MAX_TASK_PRIORITY S.tasks 0 t falling (omega arith) h))
      ∙ sym (top_kept S)

  -- lower tasks list no upper resource
  module _ (listed_low : (t r : ℕ) → t < length S.tasks → is_upper_task S p t ≡ false → lists_resource S t r ≡ true → is_upper_declared S p r ≡ false) where
    unlisted : (t r : ℕ) → is_upper_declared S p r ≡ true → upper_count S p ≤ t → t < length S.tasks → lists_resource S t r ≡ false
    unlisted t r pass more inside =
        false_from_ne_true (lists_resource S t r) (λ h. clash (sym pass ∙ listed_low t r inside (split t inside ∙ lt_false t (upper_count S p) more) h))

    pub declared_same : (r : ℕ) → is_upper_declared S p r ≡ true
        → declared_ceiling (upper_core S p) (rank (is_upper_declared S p) r) ≡ declared_ceiling S r
    declared_same r pass =
        let new : ℕ = rank (is_upper_declared S p) r in
        ceiling_kept (upper_core S p) new
        ∙ ap (λ n. greatest (map (priority_of (upper_core S p)) (kept (λ t. lists_resource (upper_core S p) t new) n))) task_count
        ∙ ap greatest (map_kept (priority_of (upper_core S p)) (priority_of S) (λ t. lists_resource (upper_core S p) t new) (upper_count S p) priorities)
        ∙ ap (λ ns. greatest (map (priority_of S) ns)) (kept_same (λ t. lists_resource (upper_core S p) t new) (λ t. lists_resource S t r) (upper_count S p) (λ t h. lists_same t r h pass))
        ∙ ap (λ ns. greatest (map (priority_of S) ns)) (sym (kept_short (λ t. lists_resource S t r) (upper_count S p) (length S.tasks) within (λ t more inside. unlisted t r pass more inside)))
        ∙ sym (ceiling_kept S r)

    -- all resources of the core are upper
    pub upper_same : (r : ℕ) → r < length (upper_core S p).resources → is_upper_declared (upper_core S p) p r ≡ true
    upper_same r h =
        each_ranked (λ i. is_upper_declared (upper_core S p) p i ≡ true) (is_upper_declared S p) (length S.resources)
        (λ a inside pass. ap (nat_le p) (declared_same a pass) ∙ pass)
        r (subst (λ n. r < n) (length-map (upper_resources S p) (resource S)) h)

    pub resource_numbers : upper_resources (upper_core S p) p ≡ below (rank (is_upper_declared S p) (length S.resources))
    resource_numbers =
        all_kept (is_upper_declared (upper_core S p) p) (length (upper_core S p).resources) upper_same
        ∙ ap below (length-map (upper_resources S p) (resource S))

    -- those that a job may get are the same
    pub standard_same : upper_standard (upper_core S p) p ≡ map (rank (is_upper_declared S p)) (upper_standard S p)
    standard_same =
        ap (filter (λ r. not (is_internal (upper_core S p) r))) resource_numbers
        ∙ filter_ranked (λ r. not (is_internal S r)) (λ r. not (is_internal (upper_core S p) r))
        (is_upper_declared S p) (length S.resources)
        (λ a inside pass. ap not (internal_same a inside pass))
        ∙ ap (map (rank (is_upper_declared S p)))
        (filter_swap (is_upper_declared S p) (λ r. not (is_internal S r)) (below (length S.resources)))

    pub ceilings : (r : ResId) → 0 < upper_count S p → is_visible S p r ≡ true
        → ceiling (upper_core S p) (renumbered_resource S p r) ≡ ceiling S r
    ceilings (ResId.Declared r) some pass = declared_same r pass
    ceilings ResId.Scheduler some pass = top_same some

    internal_by : (t : ℕ) → t < upper_count S p → (schedule : Schedule)
        → internal_ceiling_by (upper_core S p) schedule (map (rank (is_upper_declared S p)) (task S t).resources)
        ≡ internal_ceiling_by S schedule (task S t).resources
    internal_by t h Schedule.Non = ap Some (top_same (omega (arith, h)))
    internal_by t h Schedule.Full =
        find_renumbered (is_internal S) (is_internal (upper_core S p)) (rank (is_upper_declared S p)) (declared_ceiling S) (declared_ceiling (upper_core S p)) (task S t).resources
        (each_in (λ r. (is_internal (upper_core S p) (rank (is_upper_declared S p) r) ≡ is_internal S r) × (declared_ceiling (upper_core S p) (rank (is_upper_declared S p) r) ≡ declared_ceiling S r)) (task S t).resources
        (λ r e.
        let pass = listed_upper t r h e in
        (internal_same r (listed_known t r (omega (arith, h, within)) e) pass, declared_same r pass)))

    pub internal : (t : ℕ) → t < upper_count S p → internal_ceiling (upper_core S p) t ≡ internal_ceiling S t
    internal t h =
        ap (λ (a : Task). internal_ceiling_by (upper_core S p) a.schedule a.resources) (tasks t h)
        ∙ internal_by t h (task S t).schedule

-- ---- resources told apart

pub same_renumbered : (S : System) (p : ℕ) (q r : ResId) → is_visible S p q ≡ true → is_visible S p r ≡ true
    → same_resource (renumbered_resource S p q) (renumbered_resource S p r) ≡ same_resource q r
same_renumbered S p (ResId.Declared q) (ResId.Declared r) h k = rank_same (is_upper_declared S p) q r h k
same_renumbered S p (ResId.Declared q) ResId.Scheduler h k = refl
same_renumbered S p ResId.Scheduler (ResId.Declared r) h k = refl
same_renumbered S p ResId.Scheduler ResId.Scheduler h k = refl

-- What a service refuses is the same in the upper core.
use Rattle.std.proofs.Common.{◌≡◌, ℕ, ◌/◌, ◌<◌, ◌≤◌, Bool, true, false, cond, not, ◌&&◌, ◌||◌, nat_lt, nat_le, List, [], ◌∷◌, map, length, refl, sym, ◌∙◌, ap, ap₂, arith, eqb-true, le-ltb, leb-true}
use Rattle.std.specs.Prelude.{Some, None, is_some, ◌==◌}
use Rattle.std.specs.List.{filter, list_any, AllByRecursion}
use Rattle.osek_base.specs.declared.ids.ResId.{ResId}
use Rattle.osek_base.specs.declared.instr.Service.{Service}
use Rattle.osek_base.specs.Types.{ServiceCall}
use Rattle.osek_base.specs.declared.status.Status.{Status}
use Rattle.osek_base.specs.declared.task.Counter.{Counter}
use Rattle.osek_base.specs.Lists.{is_empty, last_of, same_resource}
use Rattle.osek_base.specs.System.{System, Task, counter_of, is_extended}
use Rattle.osek_base.specs.State.{Job, State, waits, same_id}
use Rattle.osek_base.specs.Priority.{static_priority, dynamic_priority}
use Rattle.osek_base.specs.Activation.{is_full}
use Rattle.osek_base.specs.Alarm.{count, is_bad_cycle}
use Rattle.osek_base.specs.Service.{Caller, JobCalls, RoutineCalls, NobodyCalls, by_routine, holds_any, is_own_task, is_basic_caller, may_take, caller_may_take, holds, is_above_ceiling, is_resource, got_last, caller_holds, is_suspended, in_use, refusals, is_outranked}
use Rattle.osek_base.specs.Upper.{TheResource, is_upper_task, is_upper_resource, is_upper_alarm}
use Rattle.osek_base.specs.Separable.{is_scheduler_object}
use Rattle.osek_base.specs.Agree.{rank, renumbered_resource, renumbered_service, is_upper_declared, upper_core}
use Rattle.partition_check.proofs.UpperState.{up, up_job, up_jobs, is_upper_job, upper_count}
use Rattle.partition_check.proofs.Shared.{IsCounterpart, IsLow, IsLayeredJob, IsLayered, IsUpperCaller, IsUpperCall, is_visible, up_caller}
use Rattle.partition_check.proofs.ListsUp.{true≢false, false≢true, any_map_is, any_weaker, is_empty_map}
use Rattle.partition_check.proofs.PriorityUp.{first_tasks, static_up, dynamic_up, dynamic_low, held_visible, held_unseen}
use Rattle.partition_check.proofs.JobsUp.{jobs_of_empty_up, jobs_of_length_up}
use Rattle.partition_check.proofs.AlarmsUp.{expiry_up}

-- ---- a test that is not refused

pub passes_unless_not : (b : Bool) → (true && not b) ≡ false → b ≡ true
passes_unless_not true e = refl
passes_unless_not false e = absurd (true≢false e)

module _ (S : System) (p : ℕ) where
  -- ---- what an upper call names

  pub upper_task_named : (t : ℕ) → (true && not (is_upper_task S p t)) ≡ false → is_upper_task S p t ≡ true
  upper_task_named t names = passes_unless_not (is_upper_task S p t) names

  pub upper_alarm_named : (a : ℕ) → (true && not (is_upper_alarm S p a)) ≡ false → is_upper_alarm S p a ≡ true
  upper_alarm_named a names = passes_unless_not (is_upper_alarm S p a) names

  pub visible_named : (r : ResId) → (not (is_scheduler_object (TheResource r)) && not (is_upper_resource S p r)) ≡ false
      → is_visible S p r ≡ true
  visible_named (ResId.Declared r) names = passes_unless_not (is_upper_declared S p r) names
  visible_named ResId.Scheduler names = refl

  -- ---- tests that no number of an object enters

  pub suspended_up : (s : State) (t : ℕ) → is_upper_task S p t ≡ true → is_suspended (up S p s) t ≡ is_suspended s t
  suspended_up s t high = jobs_of_empty_up S p t s.jobs high

  pub by_routine_up : (c : Caller) → by_routine (up_caller S p c) ≡ by_routine c
  by_routine_up (JobCalls j) = refl
  by_routine_up (RoutineCalls a) = refl
  by_routine_up NobodyCalls = refl

  pub holds_any_up : (c : Caller) → holds_any (up_caller S p c) ≡ holds_any c
  holds_any_up (JobCalls j) = ap not (is_empty_map (renumbered_resource S p) j.held)
  holds_any_up (RoutineCalls a) = refl
  holds_any_up NobodyCalls = refl

  pub own_task_up : (c : Caller) (t : ℕ) → is_own_task (up_caller S p c) t ≡ is_own_task c t
  own_task_up (JobCalls j) t = refl
  own_task_up (RoutineCalls a) t = refl
  own_task_up NobodyCalls t = refl

module _ (S : System) (p : ℕ) (both : IsCounterpart S p) where
  -- ---- tasks

  task_up : (t : ℕ) → t < length S.tasks → is_upper_task S p t ≡ true → t < upper_count S p
  task_up t inside high = first_tasks S p both t inside high

  pub extended_up : (t : ℕ) → t < upper_count S p → is_extended (upper_core S p) t ≡ is_extended S t
  extended_up t first = ap (λ (a : Task). not (is_empty a.events)) (both.tasks t first)

  pub full_up : (s : State) (t : ℕ) → t < upper_count S p → is_upper_task S p t ≡ true
      → is_full (upper_core S p) (up S p s) t ≡ is_full S s t
  full_up s t first high =
      ap₂ nat_le (ap (λ (a : Task). a.activation) (both.tasks t first)) (jobs_of_length_up S p t s.jobs high)

  -- ---- the caller

  pub basic_up : (s : State) (c : Caller) → IsUpperCaller S p s c
      → is_basic_caller (upper_core S p) (up_caller S p c) ≡ is_basic_caller S c
  basic_up s (JobCalls j) upper = ap not (extended_up j.id.task (task_up j.id.task upper.0.task upper.1))
  basic_up s (RoutineCalls a) upper = refl
  basic_up s NobodyCalls upper = refl

  -- ---- resources

  may_take_up : (t : ℕ) (r : ResId) → t < upper_count S p → is_visible S p r ≡ true
      → may_take (upper_core S p) t (renumbered_resource S p r) ≡ may_take S t r
  may_take_up t (ResId.Declared r) first seen = both.lists t r first seen
  may_take_up t ResId.Scheduler first seen = refl

  pub caller_may_take_up : (s : State) (c : Caller) (r : ResId) → IsUpperCaller S p s c → is_visible S p r ≡ true
      → caller_may_take (upper_core S p) (up_caller S p c) (renumbered_resource S p r) ≡ caller_may_take S c r
  caller_may_take_up s (JobCalls j) r upper seen = may_take_up j.id.task r (task_up j.id.task upper.0.task upper.1) seen
  caller_may_take_up s (RoutineCalls a) r upper seen = refl
  caller_may_take_up s NobodyCalls r upper seen = refl

  pub above_ceiling_up : (s : State) (c : Caller) (r : ResId) → IsUpperCaller S p s c → is_visible S p r ≡ true
      → is_above_ceiling (upper_core S p) (up_caller S p c) (renumbered_resource S p r) ≡ is_above_ceiling S c r
  above_ceiling_up s (JobCalls j) r upper seen =
      let first : j.id.task < upper_count S p = task_up j.id.task upper.0.task upper.1 in
      ap₂ nat_lt (both.ceilings r (omega (arith, first)) seen) (static_up S p both j first)
  above_ceiling_up s (RoutineCalls a) r upper seen = refl
  above_ceiling_up s NobodyCalls r upper seen = refl

  last_up : (held : List ResId) (r : ResId) → AllByRecursion (λ q. is_visible S p q ≡ true) held → is_visible S p r ≡ true
      → is_resource (last_of (map (renumbered_resource S p) held)) (renumbered_resource S p r) ≡ is_resource (last_of held) r
  last_up [] r all seen = refl
  last_up (q ∷ []) r all seen = both.same q r all.0 seen
  last_up (q ∷ q' ∷ held) r all seen = last_up (q' ∷ held) r all.1 seen

  pub got_last_up : (s : State) (c : Caller) (r : ResId) → IsUpperCaller S p s c → is_visible S p r ≡ true
      → got_last (up_caller S p c) (renumbered_resource S p r) ≡ got_last c r
  got_last_up s (JobCalls j) r upper seen = last_up j.held r (held_visible S p j upper.0 upper.1) seen
  got_last_up s (RoutineCalls a) r upper seen = refl
  got_last_up s NobodyCalls r upper seen = refl

  pub any_same_up : (held : List ResId) (r : ResId) → AllByRecursion (λ q. is_visible S p q ≡ true) held → is_visible S p r ≡ true
      → list_any (same_resource (renumbered_resource S p r)) (map (renumbered_resource S p) held) ≡ list_any (same_resource r) held
  any_same_up [] r all seen = refl
  any_same_up (q ∷ held) r all seen = ap₂ (λ a b. a || b) (both.same r q seen all.0) (any_same_up held r all.1 seen)

  caller_holds_up : (s : State) (c : Caller) (r : ResId) → IsUpperCaller S p s c → is_visible S p r ≡ true
      → caller_holds (up_caller S p c) (renumbered_resource S p r) ≡ caller_holds c r
  caller_holds_up s (JobCalls j) r upper seen = any_same_up j.held r (held_visible S p j upper.0 upper.1) seen
  caller_holds_up s (RoutineCalls a) r upper seen = refl
  caller_holds_up s NobodyCalls r upper seen = refl

  -- the same resource is seen the same
  same_seen : (r q : ResId) → same_resource r q ≡ true → is_visible S p r ≡ is_visible S p q
  same_seen (ResId.Declared r) (ResId.Declared q) e = ap (is_upper_declared S p) (eqb-true r q e)
  same_seen (ResId.Declared r) ResId.Scheduler e = absurd (false≢true e)
  same_seen ResId.Scheduler (ResId.Declared q) e = absurd (false≢true e)
  same_seen ResId.Scheduler ResId.Scheduler e = refl

  none_same : (held : List ResId) (r : ResId) → AllByRecursion (λ q. is_visible S p q ≡ false) held → is_visible S p r ≡ true
      → list_any (same_resource r) held ≡ false
  none_same [] r all seen = refl
  none_same (q ∷ held) r all seen = ap₂ (λ a b. a || b) (differs (same_resource r q) refl) (none_same held r all.1 seen)
    where
      differs : (b : Bool) → same_resource r q ≡ b → b ≡ false
      differs true e = absurd (true≢false (sym seen ∙ same_seen r q e ∙ all.0))
      differs false e = refl

  -- only upper jobs hold what is visible
  pub holders_upper : (r : ResId) → is_visible S p r ≡ true → (jobs : List Job) → AllByRecursion (IsLayeredJob S p) jobs
      → AllByRecursion (λ j. holds j r ≡ true → is_upper_job S p j ≡ true) jobs
  holders_upper r seen [] all = tt
  holders_upper r seen (j ∷ jobs) all = (go (is_upper_job S p j) refl, holders_upper r seen jobs all.1)
    where
      go : (b : Bool) → is_upper_job S p j ≡ b → holds j r ≡ true → b ≡ true
      go true h e = refl
      go false h e = absurd (true≢false (sym e ∙ none_same j.held r (held_unseen S p j all.0 h) seen))

  holds_up : (r : ResId) → is_visible S p r ≡ true → (jobs : List Job) → AllByRecursion (IsLayeredJob S p) jobs
      → list_any (λ j. holds (up_job S p j) (renumbered_resource S p r)) (filter (is_upper_job S p) jobs)
      ≡ list_any (λ j. holds j r) (filter (is_upper_job S p) jobs)
  holds_up r seen [] all = refl
  holds_up r seen (j ∷ jobs) all = go (is_upper_job S p j) refl (holds_up r seen jobs all.1)
    where
      go : (b : Bool) → is_upper_job S p j ≡ b
          → list_any (λ k. holds (up_job S p k) (renumbered_resource S p r)) (filter (is_upper_job S p) jobs)
          ≡ list_any (λ k. holds k r) (filter (is_upper_job S p) jobs)
          → list_any (λ k. holds (up_job S p k) (renumbered_resource S p r)) (cond b (j ∷ filter (is_upper_job S p) jobs) (filter (is_upper_job S p) jobs))
          ≡ list_any (λ k. holds k r) (cond b (j ∷ filter (is_upper_job S p) jobs) (filter (is_upper_job S p) jobs))
      go true h rest = ap₂ (λ a b. a || b) (any_same_up j.held r (held_visible S p j all.0 h) seen) rest
      go false h rest = rest

  -- whether a visible resource is held by a job
  pub held_by_any_up : (r : ResId) → is_visible S p r ≡ true → (jobs : List Job) → AllByRecursion (IsLayeredJob S p) jobs
      → list_any (λ j. holds j (renumbered_resource S p r)) (up_jobs S p jobs) ≡ list_any (λ j. holds j r) jobs
  held_by_any_up r seen jobs all =
      any_map_is (up_job S p) (λ j. holds j (renumbered_resource S p r)) (filter (is_upper_job S p) jobs)
      ∙ holds_up r seen jobs all
      ∙ any_weaker (λ j. holds j r) (is_upper_job S p) jobs (holders_upper r seen jobs all)

  -- ---- alarms

  pub in_use_up : (s : State) (a : ℕ) → a < length S.alarms → is_upper_alarm S p a ≡ true
      → in_use (up S p s) (rank (is_upper_alarm S p) a) ≡ in_use s a
  in_use_up s a inside high = ap is_some (expiry_up S p both s a inside high)

  pub count_up : (s : State) (a : ℕ) → a < length S.alarms → is_upper_alarm S p a ≡ true
      → count (upper_core S p) (up S p s) (rank (is_upper_alarm S p) a) ≡ count S s a
  count_up s a inside high = ap (λ (k : Counter). s.tick / k.ticks_per_base) (both.counters a inside high)

  -- ---- who outranks the caller

  outranking_up : (j k : Job) → IsLayeredJob S p j → is_upper_job S p j ≡ true → IsLayeredJob S p k → is_upper_job S p k ≡ true
      → nat_lt (static_priority (upper_core S p) (up_job S p j)) (dynamic_priority (upper_core S p) (up_job S p k))
      ≡ nat_lt (static_priority S j) (dynamic_priority S k)
  outranking_up j k layered high layered_k high_k =
      ap₂ nat_lt (static_up S p both j (task_up j.id.task layered.task high)) (dynamic_up S p both k layered_k high_k)

  last_false : (a b c : Bool) → c ≡ false → (a && b && c) ≡ false
  last_false true true c e = e
  last_false true false c e = refl
  last_false false b c e = refl

  outranks_low : (below : IsLow S p) (j k : Job) → is_upper_job S p j ≡ true → IsLayeredJob S p k → is_upper_job S p k ≡ false
      → nat_lt (static_priority S j) (dynamic_priority S k) ≡ false
  outranks_low below j k high layered_k low_k =
      let less : dynamic_priority S k < p = dynamic_low S p below k layered_k low_k in
      let own : p ≤ static_priority S j = leb-true p (static_priority S j) high in
      le-ltb (static_priority S j) (dynamic_priority S k) (omega (arith, less, own))

  outranked_jobs : (below : IsLow S p) (j : Job) → IsLayeredJob S p j → is_upper_job S p j ≡ true
      → (jobs : List Job) → AllByRecursion (IsLayeredJob S p) jobs
      → list_any (λ k. not (same_id k.id j.id) && not (waits k) && nat_lt (static_priority (upper_core S p) (up_job S p j)) (dynamic_priority (upper_core S p) k)) (up_jobs S p jobs)
      ≡ list_any (λ k. not (same_id k.id j.id) && not (waits k) && nat_lt (static_priority S j) (dynamic_priority S k)) jobs
  outranked_jobs below j layered high [] all = refl
  outranked_jobs below j layered high (k ∷ jobs) all = go (is_upper_job S p k) refl (outranked_jobs below j layered high jobs all.1)
    where
      go : (b : Bool) → is_upper_job S p k ≡ b
          → list_any (λ l. not (same_id l.id j.id) && not (waits l) && nat_lt (static_priority (upper_core S p) (up_job S p j)) (dynamic_priority (upper_core S p) l)) (up_jobs S p jobs)
          ≡ list_any (λ l. not (same_id l.id j.id) && not (waits l) && nat_lt (static_priority S j) (dynamic_priority S l)) jobs
          → list_any (λ l. not (same_id l.id j.id) && not (waits l) && nat_lt (static_priority (upper_core S p) (up_job S p j)) (dynamic_priority (upper_core S p) l))
          (map (up_job S p) (cond b (k ∷ filter (is_upper_job S p) jobs) (filter (is_upper_job S p) jobs)))
          ≡ list_any (λ l. not (same_id l.id j.id) && not (waits l) && nat_lt (static_priority S j) (dynamic_priority S l)) (k ∷ jobs)
      go true h rest = ap₂ (λ x y. (not (same_id k.id j.id) && not (waits k) && x) || y) (outranking_up j k layered high all.0 h) rest
      go false h rest =
          rest
          ∙ ap (λ b. b || list_any (λ l. not (same_id l.id j.id) && not (waits l) && nat_lt (static_priority S j) (dynamic_priority S l)) jobs)
          (sym (last_false (not (same_id k.id j.id)) (not (waits k)) (nat_lt (static_priority S j) (dynamic_priority S k))
          (outranks_low below j k high all.0 h)))

  pub outranked_up : IsLow S p → (s : State) (c : Caller) → IsUpperCaller S p s c → (jobs : List Job) → AllByRecursion (IsLayeredJob S p) jobs
      → is_outranked (upper_core S p) (up_caller S p c) (up_jobs S p jobs) ≡ is_outranked S c jobs
  outranked_up below s (JobCalls j) upper jobs all = outranked_jobs below j upper.0 upper.1 jobs all
  outranked_up below s (RoutineCalls a) upper jobs all = refl
  outranked_up below s NobodyCalls upper jobs all = refl

  -- ---- refusals, row by row

  take_refusals : (s : State) (c : Caller) (r : ResId) → IsLayered S p s → IsUpperCaller S p s c → is_visible S p r ≡ true
      → refusals (upper_core S p) (up_caller S p c) (up S p s) (Service.GetResource (Some (renumbered_resource S p r)))
      ≡ refusals S c s (Service.GetResource (Some r))
  take_refusals s c r layered upper seen =
      let routine : by_routine (up_caller S p c) ≡ by_routine c = by_routine_up S p c in
      let may : caller_may_take (upper_core S p) (up_caller S p c) (renumbered_resource S p r) ≡ caller_may_take S c r = caller_may_take_up s c r upper seen in
      let held : list_any (λ j. holds j (renumbered_resource S p r)) (up_jobs S p s.jobs) ≡ list_any (λ j. holds j r) s.jobs =
      held_by_any_up r seen s.jobs layered.jobs in
      λ i. (routine i, Status.Access) ∷ (not (may i), Status.Access) ∷ (held i, Status.Access) ∷ []

  release_refusals : (s : State) (c : Caller) (r : ResId) → IsUpperCaller S p s c → is_visible S p r ≡ true
      → refusals (upper_core S p) (up_caller S p c) (up S p s) (Service.ReleaseResource (Some (renumbered_resource S p r)))
      ≡ refusals S c s (Service.ReleaseResource (Some r))
  release_refusals s c r upper seen =
      let routine : by_routine (up_caller S p c) ≡ by_routine c = by_routine_up S p c in
      let above : is_above_ceiling (upper_core S p) (up_caller S p c) (renumbered_resource S p r) ≡ is_above_ceiling S c r = above_ceiling_up s c r upper seen in
      let last : got_last (up_caller S p c) (renumbered_resource S p r) ≡ got_last c r = got_last_up s c r upper seen in
      λ i. (routine i, Status.Access) ∷ (above i, Status.Access) ∷ (not (last i), Status.NoFunc) ∷ []

  -- the words of a resource are refused, to be read or to be written
  shared_refusals : (s : State) (c : Caller) (r : ResId) (i : ℕ) → IsUpperCaller S p s c → is_visible S p r ≡ true
      → refusals (upper_core S p) (up_caller S p c) (up S p s) (Service.LoadShared (Some (renumbered_resource S p r)) i)
      ≡ refusals S c s (Service.LoadShared (Some r) i)
  shared_refusals s c r i upper seen =
      let routine : by_routine (up_caller S p c) ≡ by_routine c = by_routine_up S p c in
      let scheduler : same_resource ResId.Scheduler (renumbered_resource S p r) ≡ same_resource ResId.Scheduler r =
      both.same ResId.Scheduler r refl seen in
      let held : caller_holds (up_caller S p c) (renumbered_resource S p r) ≡ caller_holds c r =
      caller_holds_up s c r upper seen in
      λ n. (routine n, Status.Access) ∷ (scheduler n, Status.Access) ∷ (not (held n), Status.Access) ∷ []

  event_refusals : (s : State) (t : ℕ) → t < length S.tasks → is_upper_task S p t ≡ true
      → refusals (upper_core S p) NobodyCalls (up S p s) (Service.GetEvent (Some t)) ≡ refusals S NobodyCalls s (Service.GetEvent (Some t))
  event_refusals s t inside high =
      let extended : is_extended (upper_core S p) t ≡ is_extended S t = extended_up t (task_up t inside high) in
      let suspended : is_suspended (up S p s) t ≡ is_suspended s t = suspended_up S p s t high in
      λ i. (not (extended i), Status.Access) ∷ (suspended i, Status.State) ∷ []

  -- the two refusals of a task's end, and of Schedule
  end_refusals : (c : Caller) (rest rest' : List (Bool × Status)) → rest' ≡ rest
      → ((by_routine (up_caller S p c), Status.CallLevel) ∷ (holds_any (up_caller S p c), Status.Resource) ∷ rest')
      ≡ ((by_routine c, Status.CallLevel) ∷ (holds_any c, Status.Resource) ∷ rest)
  end_refusals c rest rest' same =
      let routine : by_routine (up_caller S p c) ≡ by_routine c = by_routine_up S p c in
      let holds_some : holds_any (up_caller S p c) ≡ holds_any c = holds_any_up S p c in
      λ i. (routine i, Status.CallLevel) ∷ (holds_some i, Status.Resource) ∷ same i

  pub refusals_up : (s : State) (c : Caller) (call : ServiceCall) → IsLayered S p s → IsUpperCaller S p s c → IsUpperCall S p c call
      → refusals (upper_core S p) (up_caller S p c) (up S p s) (renumbered_service S p call) ≡ refusals S c s call
  refusals_up s c (Service.ActivateTask None) layered upper named = refl
  refusals_up s c (Service.ActivateTask (Some t)) layered upper named =
      let high : is_upper_task S p t ≡ true = upper_task_named S p t named.names in
      let full : is_full (upper_core S p) (up S p s) t ≡ is_full S s t = full_up s t (task_up t named.known high) high in
      λ i. (full i, Status.Limit) ∷ []
  refusals_up s c Service.TerminateTask layered upper named = end_refusals c [] [] refl
  refusals_up s c (Service.ChainTask None) layered upper named = ap (λ b. (b, Status.CallLevel) ∷ (true, Status.Id) ∷ []) (by_routine_up S p c)
  refusals_up s c (Service.ChainTask (Some t)) layered upper named =
      let high : is_upper_task S p t ≡ true = upper_task_named S p t named.names in
      let full : is_full (upper_core S p) (up S p s) t ≡ is_full S s t = full_up s t (task_up t named.known high) high in
      let own : is_own_task (up_caller S p c) t ≡ is_own_task c t = own_task_up S p c t in
      end_refusals c ((not (is_own_task c t) && is_full S s t, Status.Limit) ∷ [])
      ((not (is_own_task (up_caller S p c) t) && is_full (upper_core S p) (up S p s) t, Status.Limit) ∷ [])
      (λ i. (not (own i) && full i, Status.Limit) ∷ [])
  refusals_up s c Service.Schedule layered upper named = end_refusals c [] [] refl
  refusals_up s c Service.GetTaskId layered upper named = refl
  refusals_up s c (Service.GetTaskState None) layered upper named = refl
  refusals_up s c (Service.GetTaskState (Some t)) layered upper named = refl
  refusals_up s c (Service.GetResource None) layered upper named = refl
  refusals_up s c (Service.GetResource (Some r)) layered upper named = take_refusals s c r layered upper (visible_named S p r named.names)
  refusals_up s c (Service.ReleaseResource None) layered upper named = refl
  refusals_up s c (Service.ReleaseResource (Some r)) layered upper named = release_refusals s c r upper (visible_named S p r named.names)
  refusals_up s c (Service.LoadShared None i) layered upper named = refl
  refusals_up s c (Service.LoadShared (Some r) i) layered upper named =
      shared_refusals s c r i upper (visible_named S p r named.names)
  refusals_up s c (Service.StoreShared None i v) layered upper named = refl
  refusals_up s c (Service.StoreShared (Some r) i v) layered upper named =
      shared_refusals s c r i upper (visible_named S p r named.names)
  refusals_up s c (Service.SetEvent None m) layered upper named = refl
  refusals_up s c (Service.SetEvent (Some t) m) layered upper named = event_refusals s t named.known (upper_task_named S p t named.names)
  refusals_up s c (Service.ClearEvent m) layered upper named =
      ap₂ (λ a b. (a, Status.CallLevel) ∷ (b, Status.Access) ∷ []) (by_routine_up S p c) (basic_up s c upper)
  refusals_up s c (Service.GetEvent None) layered upper named = refl
  refusals_up s c (Service.GetEvent (Some t)) layered upper named = event_refusals s t named.known (upper_task_named S p t named.names)
  refusals_up s c (Service.WaitEvent m) layered upper named =
      let routine : by_routine (up_caller S p c) ≡ by_routine c = by_routine_up S p c in
      let basic : is_basic_caller (upper_core S p) (up_caller S p c) ≡ is_basic_caller S c = basic_up s c upper in
      let holds_some : holds_any (up_caller S p c) ≡ holds_any c = holds_any_up S p c in
      λ i. (routine i, Status.CallLevel) ∷ (basic i, Status.Access) ∷ (holds_some i, Status.Resource) ∷ []
  refusals_up s c (Service.SetRelAlarm None x y) layered upper named = refl
  refusals_up s c (Service.SetRelAlarm (Some a) x y) layered upper named =
      let high : is_upper_alarm S p a ≡ true = upper_alarm_named S p a named.names in
      let used : in_use (up S p s) (rank (is_upper_alarm S p) a) ≡ in_use s a = in_use_up s a named.known high in
      let k : counter_of (upper_core S p) (rank (is_upper_alarm S p) a) ≡ counter_of S a = both.counters a named.known high in
      λ i. (used i, Status.State) ∷ (x == 0 || nat_lt (k i).max_allowed_value x || is_bad_cycle (k i) y, Status.Value) ∷ []
  refusals_up s c (Service.SetAbsAlarm None x y) layered upper named = refl
  refusals_up s c (Service.SetAbsAlarm (Some a) x y) layered upper named =
      let high : is_upper_alarm S p a ≡ true = upper_alarm_named S p a named.names in
      let used : in_use (up S p s) (rank (is_upper_alarm S p) a) ≡ in_use s a = in_use_up s a named.known high in
      let k : counter_of (upper_core S p) (rank (is_upper_alarm S p) a) ≡ counter_of S a = both.counters a named.known high in
      λ i. (used i, Status.State) ∷ (nat_lt (k i).max_allowed_value x || is_bad_cycle (k i) y, Status.Value) ∷ []
  refusals_up s c (Service.CancelAlarm None) layered upper named = refl
  refusals_up s c (Service.CancelAlarm (Some a)) layered upper named =
      ap (λ b. (not b, Status.NoFunc) ∷ []) (in_use_up s a named.known (upper_alarm_named S p a named.names))
  refusals_up s c (Service.GetAlarm None) layered upper named = refl
  refusals_up s c (Service.GetAlarm (Some a)) layered upper named =
      ap (λ b. (not b, Status.NoFunc) ∷ []) (in_use_up s a named.known (upper_alarm_named S p a named.names))
  refusals_up s c (Service.GetAlarmBase None) layered upper named = refl
  refusals_up s c (Service.GetAlarmBase (Some a)) layered upper named = refl

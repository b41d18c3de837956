-- Ticks keep the watch on a job that doesn't execute, and every ready job can be watched.
use Rattle.std.proofs.Common.{◌≡◌, ℕ, ◌<◌, ◌≤◌, ◌⊎◌, inl, inr, Bool, true, false, cond, ◌&&◌, nat_lt, nat_le, List, [], ◌∷◌, length, refl, sym, ◌∙◌, ap, subst, arith}
use Rattle.std.specs.Prelude.{Option, Some, None}
use Rattle.std.specs.List.{find, AllByRecursion}
use Rattle.std.proofs.lemmas.Bool.{cases_lt, and_parts}
use Rattle.osek_base.specs.declared.ids.Owner.{Owner}
use Rattle.osek_base.specs.Types.{ServiceCall}
use Rattle.osek_base.specs.declared.instr.Control.{Control}
use Rattle.osek_base.specs.declared.instr.Instr.{Instr}
use Rattle.osek_base.specs.Lists.{below}
use Rattle.osek_base.specs.System.{System, alarm, priority_of}
use Rattle.osek_base.specs.Instruction.{Context, plain, next}
use Rattle.osek_base.specs.State.{Job, JobId, State, same_id}
use Rattle.osek_base.specs.Priority.{static_priority, dynamic_priority}
use Rattle.osek_base.specs.GoodState.{is_raised}
use Rattle.osek_base.specs.Alarm.{is_due, due_alarms, alarms_advanced}
use Rattle.osek_base.specs.Activation.{activated}
use Rattle.osek_base.specs.Reschedule.{reschedule}
use Rattle.osek_base.specs.Service.{Caller, JobCalls, RoutineCalls, NobodyCalls, service, controlled}
use Rattle.osek_base.specs.Tick.{at_values, action_call, alarm_acts, alarms_act, alarm_phase, arrival_phase, start_phase, job_moved, with_context, answered, executed, caller_executes, executor, execute_phase, before_execution, last_phase, tick}
use Rattle.osek_base.specs.Trace.{boot, all_activated, starting_tasks}
use Rattle.osek_base.specs.Proper.{IsProper}
use Rattle.law_runs.proofs.Lists.{some_inside, none_some, EitherWay, clash, all_kept, all_both, all_weaker, found, either_way}
use Rattle.law_runs.proofs.Foremost.{same_ids}
use Rattle.law_runs.proofs.Known.{IsCaller, executor_calls, all_below}
use Rattle.law_runs.proofs.SingleTick.{alarm_known, execute_single, activated_running, begun, started_keep}
use Rattle.law_runs.proofs.Single.{IsSingle}
use Rattle.law_runs.proofs.Ranked.{AreRanked, IsRankedPair, raised_ready}
use Rattle.law_runs.proofs.RankedTick.{IsRunState, IsExecuting, action_run, before_executing, execute_left, tick_ordered, first_ordered, begun_ordered, alarm_phase_ordered}
use Rattle.law_runs.proofs.Watched.{Watch, HasReadyJob, IsBeneath, IsSeen, IsWatched, IsOther, change_watched, activated_watched, service_watched, unasked_watched, reschedule_watched}

module _ (S : System) (proper : IsProper S) (w : Option Watch) where
  abbrev pub IsWatchedState : State → Type 0
  IsWatchedState s = IsWatched S w s.running s.jobs

  other_nobody : IsOther w NobodyCalls
  other_nobody = go w
    where
      go : (v : Option Watch) → IsOther v NobodyCalls
      go None = tt
      go (Some v) = tt

  -- ---- phases 1 to 4

  alarms_watched : (due : List ℕ) → AllByRecursion (λ a. a < length S.alarms) due → (s : State) → IsRunState S s → IsWatchedState s → IsWatchedState (alarms_act S due s).state
  alarms_watched [] all s good watched = watched
  alarms_watched (a ∷ due) all s good watched =
      alarms_watched due all.1 (alarm_acts S a s).state (action_run S proper s (alarm S a).action (alarm_known S a proper all.0) good)
      (unasked_watched S w s good.single good.ordered watched (action_call (alarm S a).action) other_nobody)

  alarm_phase_watched : (s : State) → IsRunState S s → IsWatchedState s → IsWatchedState (alarm_phase S s).state
  unfolding alarm_phase
  alarm_phase_watched s good watched =
      alarms_watched (due_alarms S s) (all_kept (λ a. a < length S.alarms) (is_due S s) (below (length S.alarms)) (all_below (length S.alarms)))
      (record s { alarms = alarms_advanced S s }) (record { single = good.single; ordered = good.ordered }) watched

  start_watched : (s : State) → IsWatchedState s → IsWatchedState (start_phase S s)
  unfolding start_phase
  start_watched s watched = watched

  pub before_watched : (arrived : List ℕ) (s : State) → IsRunState S s → IsWatchedState s → IsWatchedState (before_execution S arrived s).state
  before_watched arrived s good watched =
      let waked : State = arrival_phase arrived (alarm_phase S s).state in
      let there : IsRunState S (alarm_phase S s).state = alarm_phase_ordered S proper s good in
      start_watched (reschedule S waked).state (reschedule_watched S w waked there.single there.ordered.ranked (alarm_phase_watched s good watched))

  -- ---- phases 5 and 6

  moved_watched : (c : Caller) (x : Context) (s e : State) → e.running ≡ s.running → IsCaller s c → IsOther w c → IsWatchedState e → IsWatchedState (with_context c x e)
  moved_watched (JobCalls j) x s e same calls other watched =
      change_watched S w j.id (job_moved x) e.running e.jobs (same ∙ calls.runs) (λ k. refl) (λ v h. subst (λ o. IsOther o (JobCalls j)) h other) watched
  moved_watched (RoutineCalls a) x s e same calls other watched = watched
  moved_watched NobodyCalls x s e same calls other watched = watched

  running_service : (s : State) (c : Caller) (call : ServiceCall) → (service S c s call).state.running ≡ s.running
  unfolding service
  running_service s c call = refl

  running_controlled : (control : Control ℕ) (s : State) → (controlled control s).running ≡ s.running
  running_controlled Control.DisableAllInterrupts s = refl
  running_controlled _ s = refl

  controlled_watched : (control : Control ℕ) (s : State) → IsWatchedState s → IsWatchedState (controlled control s)
  controlled_watched Control.DisableAllInterrupts s watched = watched
  controlled_watched _ s watched = watched

  executed_watched : (who : Owner) (c : Caller) (x : Context) (what : Instr) (s : State) → IsRunState S s → IsCaller s c → IsOther w c → IsWatchedState s
      → IsWatchedState (executed S who c x what s).state
  executed_watched who c x (Instr.Plain p) s good calls other watched = moved_watched c (plain p x (s.words who)).context s s refl calls other watched
  executed_watched who c x (Instr.Service call) s good calls other watched =
      let r = service S c s (at_values x call) in
      moved_watched c (answered r.status r.results x) s r.state (running_service s c (at_values x call)) calls other
      (service_watched S w s good.single good.ordered watched c (at_values x call) calls other)
  executed_watched who c x (Instr.Control control) s good calls other watched =
      moved_watched c (next x) s (controlled control s) (running_controlled control s) calls other (controlled_watched control s watched)

  caller_watched : (c : Caller) (s : State) → IsRunState S s → IsCaller s c → IsOther w c → IsWatchedState s → IsWatchedState (caller_executes S c s).state
  caller_watched (JobCalls j) s good calls other watched = executed_watched (Owner.Task j.id.task) (JobCalls j) j.context _ s good calls other watched
  caller_watched (RoutineCalls a) s good calls other watched = executed_watched (Owner.Routine a.routine) (RoutineCalls a) a.context _ s good calls other watched
  caller_watched NobodyCalls s good calls other watched = watched

  execute_watched : (s : State) → IsRunState S s → IsOther w (executor s) → IsWatchedState s → IsWatchedState (execute_phase S s).state
  unfolding execute_phase
  execute_watched s good other watched = caller_watched (executor s) s good (executor_calls s) other watched

  last_watched : (e : State) → IsSingle S e → AreRanked S e.running e.jobs → IsWatchedState e → IsWatchedState (last_phase S e).state
  last_watched e single ranked watched = go e.over
    where
      go : (b : Bool) → IsWatchedState (cond b (record { events = []; state = e }) (reschedule S e)).state
      go true = watched
      go false = reschedule_watched S w e single ranked watched

  pub after_watched : (arrived : List ℕ) (s : State) → IsRunState S s → IsOther w (executor (before_execution S arrived s).state)
      → IsWatchedState (before_execution S arrived s).state → IsWatchedState (tick S arrived s).after
  unfolding tick
  after_watched arrived s good other watched =
      let ready : State = (before_execution S arrived s).state in
      let executing : IsExecuting S proper ready = before_executing S proper arrived s good in
      last_watched (execute_phase S ready).state (execute_single S proper ready executing.good.single) (execute_left S proper ready executing).ranked
      (execute_watched ready executing.good other watched)

-- ---- boot: nobody is watched

module _ (S : System) (proper : IsProper S) where
  -- a state of a run in which nobody is watched
  pub record IsPlainState (s : State) : Type 0 where
    pub good : IsRunState S s
    pub watched : IsWatchedState S proper None s

  first_plain : (t : ℕ) (s : State) → t < length S.tasks → AllByRecursion (λ (j : Job). j.id.task < t) s.jobs → IsPlainState s → IsPlainState (activated S t s)
  first_plain t s inside older plain_state = record {
    good = first_ordered S proper t s inside older plain_state.good;
    watched = subst (λ o. IsWatched S None o (activated S t s).jobs) (sym (activated_running S proper t s)) (activated_watched S None t s plain_state.good.single plain_state.watched);
  }

  pub boot_plain : (mode : ℕ) → IsRunState S (boot S mode).state → IsPlainState (boot S mode).state
  unfolding boot
  boot_plain mode good =
      let started : State = all_activated S (starting_tasks S mode) (begun S proper mode) in
      let there : IsPlainState started =
      started_keep S proper IsPlainState first_plain mode (record { good = begun_ordered S proper mode; watched = record { each = tt; here = tt } }) in
      record { good = good; watched = reschedule_watched S None started there.good.single there.good.ordered.ranked there.watched }

  pub tick_plain : (arrived : List ℕ) (s : State) → s.over ≡ false → IsPlainState s → IsPlainState (tick S arrived s).after
  tick_plain arrived s going plain_state = record {
    good = tick_ordered S proper arrived s going plain_state.good;
    watched = after_watched S proper None arrived s plain_state.good tt (before_watched S proper None arrived s plain_state.good plain_state.watched);
  }

  -- ---- a watch begins

  none_found : {X : Type 0} (test : X → Bool) (xs : List X) → find test xs ≡ None → AllByRecursion (λ x. test x ≡ false) xs
  none_found test [] h = tt
  none_found test (x ∷ xs) h = go (test x) refl h (none_found test xs)
    where
      go : (b : Bool) → test x ≡ b → cond b (Some x) (find test xs) ≡ None → (find test xs ≡ None → AllByRecursion (λ y. test y ≡ false) xs) → AllByRecursion (λ y. test y ≡ false) (x ∷ xs)
      go true e k rest = absurd (grind arith)
      go false e k rest = (e, rest k)

  module _ (s : State) (good : IsRunState S s) (watched : IsWatchedState S proper None s) (n : JobId) (here : HasReadyJob n s.jobs) where
    abbrev pub limit : ℕ
    limit = priority_of S n.task

    -- a lower job that is raised to the watched one's priority or above
    abbrev pub is_above : Job → Bool
    is_above k = is_raised S k && nat_lt (static_priority S k) limit && nat_le limit (dynamic_priority S k)

    -- where the running job is lower, it is the one
    by_runner : (r : JobId) → s.running ≡ Some r → priority_of S r.task < limit → IsWatchedState S proper (Some (record { id = n; by = Some r })) s
    by_runner r runs low = record {
      each = all_weaker (IsSeen S None s.running) (IsSeen S (Some (record { id = n; by = Some r })) s.running) s.jobs
          (λ k h. (h.0, λ lower either. known k h.0 lower either)) watched.each;
      here = here;
    }
      where
        known : (k : Job) → IsBeneath S s.running k → static_priority S k < limit
            → ((is_raised S k ≡ true) × (limit ≤ dynamic_priority S k)) ⊎ (s.running ≡ Some k.id) → Some r ≡ Some k.id
        known k beneath lower (inr running) = sym runs ∙ running
        known k beneath lower (inl high) = go (same_id k.id r) refl
          where
            go : (b : Bool) → same_id k.id r ≡ b → Some r ≡ Some k.id
            go true e = ap Some (sym (same_ids k.id r e))
            go false e = (let less = beneath r runs e high.0 in let up = high.1 in absurd (omega arith))

    -- else it is the one raised job, if any
    true_lt : (a b : ℕ) → nat_lt a b ≡ true → a < b
    true_lt a b h = grind (arith, h)

    true_le : (a b : ℕ) → nat_le a b ≡ true → a ≤ b
    true_le a b h = grind (arith, h)

    passes : (k : Job) → is_raised S k ≡ true → static_priority S k < limit → limit ≤ dynamic_priority S k → is_above k ≡ true
    passes k raised low high = three (is_raised S k) (nat_lt (static_priority S k) limit) (nat_le limit (dynamic_priority S k)) raised (lt (static_priority S k) limit low) (le limit (dynamic_priority S k) high)
      where
        three : (a b c : Bool) → a ≡ true → b ≡ true → c ≡ true → (a && b && c) ≡ true
        three true true true f g h = refl
        three false b c f g h = clash (sym f)
        three true false c f g h = clash (sym g)
        three true true false f g h = clash (sym h)

        lt : (a b : ℕ) → a < b → nat_lt a b ≡ true
        lt a b h = grind (arith, h)

        le : (a b : ℕ) → a ≤ b → nat_le a b ≡ true
        le a b h = grind (arith, h)

    -- two such are one
    one_above : (c k : Job) → is_above c ≡ true → is_above k ≡ true → EitherWay (IsRankedPair S) c k → c ≡ k
    one_above c k hc hk either =
        let c2 = and_parts (is_raised S c && nat_lt (static_priority S c) limit) (nat_le limit (dynamic_priority S c)) hc in
        let c1 = and_parts (is_raised S c) (nat_lt (static_priority S c) limit) c2.0 in
        let k2 = and_parts (is_raised S k && nat_lt (static_priority S k) limit) (nat_le limit (dynamic_priority S k)) hk in
        let k1 = and_parts (is_raised S k) (nat_lt (static_priority S k) limit) k2.0 in
        go c k c1.0 (true_lt _ _ c1.1) (true_le _ _ c2.1) k1.0 (true_lt _ _ k1.1) (true_le _ _ k2.1) either
      where
        never : (x y : Job) → is_raised S x ≡ true → static_priority S x < limit → limit ≤ dynamic_priority S x
            → is_raised S y ≡ true → static_priority S y < limit → limit ≤ dynamic_priority S y → IsRankedPair S x y → ⊥
        never x y rx lx hx ry ly hy pair =
            pair.older ry (raised_ready S x rx) (omega arith) (pair.earlier_across ry (raised_ready S x rx) (omega arith))

        go : (x y : Job) → is_raised S x ≡ true → static_priority S x < limit → limit ≤ dynamic_priority S x
            → is_raised S y ≡ true → static_priority S y < limit → limit ≤ dynamic_priority S y → EitherWay (IsRankedPair S) x y → x ≡ y
        go x y rx lx hx ry ly hy (inl pair) = absurd (never x y rx lx hx ry ly hy pair)
        go x y rx lx hx ry ly hy (inr (inl pair)) = absurd (never y x ry ly hy rx lx hx pair)
        go x y rx lx hx ry ly hy (inr (inr e)) = e

    by_raised : ((k : Job) → s.running ≡ Some k.id → static_priority S k < limit → ⊥) → (b : Option JobId) × IsWatchedState S proper (Some (record { id = n; by = b })) s
    by_raised unrun = go (find is_above s.jobs) refl
      where
        go : (o : Option Job) → find is_above s.jobs ≡ o → (b : Option JobId) × IsWatchedState S proper (Some (record { id = n; by = b })) s
        go None e = (
          None,
          record {
            each = all_weaker (λ k. IsSeen S None s.running k × (is_above k ≡ false)) (IsSeen S (Some (record { id = n; by = None })) s.running) s.jobs
                (λ k h. (h.0.0, λ lower either. absurd (nobody k h.1 lower either))) (all_both (IsSeen S None s.running) (λ k. is_above k ≡ false) s.jobs watched.each (none_found is_above s.jobs e));
            here = here;
          },
        )
          where
            nobody : (k : Job) → is_above k ≡ false → static_priority S k < limit → ((is_raised S k ≡ true) × (limit ≤ dynamic_priority S k)) ⊎ (s.running ≡ Some k.id) → ⊥
            nobody k h lower (inl high) = clash (sym (passes k high.0 lower high.1) ∙ h)
            nobody k h lower (inr runs) = unrun k runs lower
        go (Some c) e = (
          Some c.id,
          record {
            each = all_weaker (λ k. IsSeen S None s.running k × EitherWay (IsRankedPair S) c k) (IsSeen S (Some (record { id = n; by = Some c.id })) s.running) s.jobs
                (λ k h. (h.0.0, λ lower either. this k h.1 lower either)) (all_both (IsSeen S None s.running) (EitherWay (IsRankedPair S) c) s.jobs watched.each ways.0);
            here = here;
          },
        )
          where
            ways : AllByRecursion (EitherWay (IsRankedPair S) c) s.jobs × (is_above c ≡ true)
            ways = found (λ x. AllByRecursion (EitherWay (IsRankedPair S) x) s.jobs) is_above s.jobs c (either_way (IsRankedPair S) s.jobs good.ordered.ranked.pairs) e

            this : (k : Job) → EitherWay (IsRankedPair S) c k → static_priority S k < limit → ((is_raised S k ≡ true) × (limit ≤ dynamic_priority S k)) ⊎ (s.running ≡ Some k.id) → Some c.id ≡ Some k.id
            this k either lower (inl high) = ap (λ (z : Job). Some z.id) (one_above c k ways.1 (passes k high.0 lower high.1) either)
            this k either lower (inr runs) = absurd (unrun k runs lower)

    -- each ready job can be watched
    pub watch_from : (b : Option JobId) × IsWatchedState S proper (Some (record { id = n; by = b })) s
    watch_from = go s.running refl
      where
        go : (o : Option JobId) → s.running ≡ o → (b : Option JobId) × IsWatchedState S proper (Some (record { id = n; by = b })) s
        go None e = by_raised (λ k runs low. none_some k.id (sym e ∙ runs))
        go (Some r) e = at (cases_lt (priority_of S r.task) limit)
          where
            at : (priority_of S r.task < limit) ⊎ (limit ≤ priority_of S r.task) → (b : Option JobId) × IsWatchedState S proper (Some (record { id = n; by = b })) s
            at (inl low) = (Some r, by_runner r e low)
            at (inr high) = by_raised (λ k runs low.
                (let same : r ≡ k.id = some_inside r k.id (sym e ∙ runs) in
                let level : priority_of S r.task ≡ static_priority S k = ap (λ (m : JobId). priority_of S m.task) same in
                omega arith))

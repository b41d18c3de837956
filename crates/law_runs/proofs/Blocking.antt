-- Each time that a job becomes ready, it has at most one blocker.
use Rattle.std.proofs.Common.{◌≡◌, ℕ, zero, suc, ◌+◌, ◌<◌, ◌≤◌, ◌⊎◌, inl, inr, Bool, true, false, cond, not, ◌&&◌, nat_lt, List, [], ◌∷◌, ◌++◌, drop, take, length, refl, sym, ◌∙◌, ap, subst, arith}
use Rattle.std.specs.Prelude.{Option, Some, None, is_some, slice_get}
use Rattle.std.specs.List.{take_while, prefix_len, cons_option, filter, filter_map, find, AllByRecursion}
use Rattle.osek_base.specs.declared.arrivals.Arrival.{Arrival}
use Rattle.osek_base.specs.System.{System, priority_of}
use Rattle.osek_base.specs.State.{Job, JobId, State, same_id, waits, job_of, still}
use Rattle.osek_base.specs.Priority.{static_priority}
use Rattle.osek_base.specs.Service.{Caller, JobCalls, RoutineCalls, NobodyCalls}
use Rattle.osek_base.specs.Blocker.{calling_job, is_number, executes, is_waiting_job, waits_in, is_in_state, becomes_ready, becomes_ready_in, becomes_ready_after, state_after, is_ready_from, number_below, lower_executor, distinct}
use Rattle.osek_base.specs.Tick.{Step, executor, before_execution, tick}
use Rattle.osek_base.specs.Trace.{Run, boot, arriving, with_earlier, step_added, run}
use Rattle.osek_base.specs.Laws.{BlocksOnce}
use Rattle.osek_base.specs.Proper.{IsProper}
use Rattle.law_runs.proofs.Lists.{some_inside, clash, all_any, all_kept, found}
use Rattle.law_runs.proofs.Foremost.{same_ids, same_self}
use Rattle.law_runs.proofs.Known.{IsCaller, executor_calls}
use Rattle.law_runs.proofs.RankedTick.{IsRunState, before_executing, tick_ordered, boot_ordered}
use Rattle.law_runs.proofs.Watched.{Watch, HasReadyJob, IsSeen, IsOther}
use Rattle.law_runs.proofs.WatchedTick.{IsWatchedState, IsPlainState, before_watched, after_watched, boot_plain, tick_plain, watch_from}
use Rattle.std.proofs.lemmas.Bool.{and_parts, or_cases}

-- ---- ids that are all one

module _ (b : Option JobId) where
  abbrev pub AreBy : List JobId → Type 0
  AreBy ids = AllByRecursion (λ m. b ≡ Some m) ids

  pub distinct_by : (ids : List JobId) → AreBy ids → AreBy (distinct ids)
  distinct_by [] all = tt
  distinct_by (m ∷ ids) all = (all.0, all_kept (λ k. b ≡ Some k) (λ k. not (same_id k m)) (distinct ids) (distinct_by ids all.1))

  pub none_else : (m : JobId) (ids : List JobId) → b ≡ Some m → AreBy ids → filter (λ k. not (same_id k m)) ids ≡ []
  none_else m [] e all = refl
  none_else m (k ∷ ids) e all = go (same_id k m) same (none_else m ids e all.1)
    where
      same : same_id k m ≡ true
      same = ap (λ n. same_id n m) (some_inside k m (sym all.0 ∙ e)) ∙ same_self m

      go : (c : Bool) → c ≡ true → filter (λ n. not (same_id n m)) ids ≡ [] → cond (not c) (k ∷ filter (λ n. not (same_id n m)) ids) (filter (λ n. not (same_id n m)) ids) ≡ []
      go true h rest = rest
      go false h rest = clash (sym h)

  at_most_one : (ids : List JobId) → AreBy ids → length (distinct ids) ≤ 1
  at_most_one [] all = omega arith
  at_most_one (m ∷ ids) all =
      let none : filter (λ k. not (same_id k m)) (distinct ids) ≡ [] = none_else m (distinct ids) all.0 (distinct_by ids all.1) in
      subst (λ (xs : List JobId). length (m ∷ xs) ≤ 1) (sym none) (omega arith)

-- ---- steps one after another

pub record IsStepFrom (S : System) (s : State) (x : Step) : Type 0 where
  pub arrived : List ℕ
  pub executing : x.executing ≡ (before_execution S arrived s).state
  pub after : x.after ≡ (tick S arrived s).after
  pub going : s.over ≡ false

abbrev pub IsChain : System → State → List Step → Type 0
IsChain S s [] = Unit {0}
IsChain S s (x ∷ xs) = IsStepFrom S s x × IsChain S x.after xs

abbrev pub last_state : State → List Step → State
last_state s [] = s
last_state s (x ∷ xs) = last_state x.after xs

module _ (S : System) (proper : IsProper S) where
  chain_more : (s : State) (xs : List Step) (x : Step) → IsChain S s xs → IsStepFrom S (last_state s xs) x → IsChain S s (xs ++ x ∷ [])
  chain_more s [] x chain step = (step, tt)
  chain_more s (y ∷ xs) x chain step = (chain.0, chain_more y.after xs x chain.1 step)

  last_more : (s : State) (xs : List Step) (x : Step) → last_state s (xs ++ x ∷ []) ≡ x.after
  last_more s [] x = refl
  last_more s (y ∷ xs) x = last_more y.after xs x

  executing_from : (arrived : List ℕ) (s : State) → (tick S arrived s).executing ≡ (before_execution S arrived s).state
  unfolding tick
  executing_from arrived s = refl

  -- the steps of a run
  pub record IsChained (mode : ℕ) (r : Run) : Type 0 where
    pub chain : IsChain S (boot S mode).state r.steps
    pub last : last_state (boot S mode).state r.steps ≡ r.state

  abbrev pub more_at : List Arrival → Run → Bool → Run
  more_at arrivals r over =
      elim over [ true ↦ r | false ↦ step_added r (tick S (arriving arrivals r.state.tick) r.state) ]

  more_chained : (mode : ℕ) (arrivals : List Arrival) (r : Run) (over : Bool) → r.state.over ≡ over → IsChained mode r → IsChained mode (more_at arrivals r over)
  more_chained mode arrivals r true e chained = chained
  more_chained mode arrivals r false e chained = record {
    chain = chain_more (boot S mode).state r.steps (with_earlier r.unwritten (tick S (arriving arrivals r.state.tick) r.state)) chained.chain
        (subst (λ s. IsStepFrom S s (with_earlier r.unwritten (tick S (arriving arrivals r.state.tick) r.state))) (sym chained.last)
        (record { arrived = arriving arrivals r.state.tick; executing = executing_from (arriving arrivals r.state.tick) r.state; after = refl; going = e }));
    last = last_more (boot S mode).state r.steps (with_earlier r.unwritten (tick S (arriving arrivals r.state.tick) r.state));
  }

  run_chained : (mode : ℕ) (arrivals : List Arrival) (n : ℕ) → IsChained mode (run S mode arrivals n)
  unfolding run
  run_chained mode arrivals zero = record { chain = tt; last = refl }
  run_chained mode arrivals (suc n) = more_chained mode arrivals (run S mode arrivals n) (run S mode arrivals n).state.over refl (run_chained mode arrivals n)

  -- ---- who executes below the watched job

  true_lt : (a b : ℕ) → nat_lt a b ≡ true → a < b
  true_lt a b h = grind (arith, h)

  -- the blocker that a step shows is the known one
  abbrev pub IsByOne : Option JobId → Option JobId → Type 0
  IsByOne b None = Unit {0}
  IsByOne b (Some m) = b ≡ Some m

  below_by : (w : Watch) (s : State) → IsWatchedState S proper (Some w) s → (c : Caller) → IsCaller s c → (o : Option Job) → job_of w.id s.jobs ≡ o
      → IsByOne w.by (number_below S (calling_job c) o)
  below_by w s watched (JobCalls k) calls None e = tt
  below_by w s watched (JobCalls k) calls (Some j) e = go (nat_lt (static_priority S k) (static_priority S j)) refl
    where
      id : j.id ≡ w.id
      id = same_ids j.id w.id (found (λ x. Unit {0}) (λ x. same_id x.id w.id) s.jobs j (all_any (λ x. Unit {0}) s.jobs (λ x. tt)) e).1

      seen : IsSeen S (Some w) s.running k
      seen = (found (IsSeen S (Some w) s.running) (λ x. same_id x.id k.id) s.jobs k watched.each calls.found).0

      go : (b : Bool) → nat_lt (static_priority S k) (static_priority S j) ≡ b → IsByOne w.by (cond b (Some k.id) None)
      go false h = tt
      go true h =
          let low : static_priority S k < priority_of S w.id.task =
          subst (λ (n : JobId). static_priority S k < priority_of S n.task) id (true_lt (static_priority S k) (static_priority S j) h) in
          seen.1 low (inr calls.runs)
  below_by w s watched (RoutineCalls a) calls o e = tt
  below_by w s watched NobodyCalls calls o e = tt

  step_by : (w : Watch) (x : Step) → IsWatchedState S proper (Some w) x.executing → IsByOne w.by (lower_executor S w.id x)
  step_by w x watched = below_by w x.executing watched (executor x.executing) (executor_calls x.executing) (job_of w.id x.executing.jobs) refl

  cons_by : (b : Option JobId) (o : Option JobId) (ids : List JobId) → IsByOne b o → AreBy b ids → AreBy b (cons_option o ids)
  cons_by b None ids one rest = rest
  cons_by b (Some m) ids one rest = (one, rest)

  not_executing : (w : Watch) (c : Caller) → is_number w.id (calling_job c) ≡ false → IsOther (Some w) c
  not_executing w (JobCalls j) h = h
  not_executing w (RoutineCalls a) h = tt
  not_executing w NobodyCalls h = tt

  -- the steps before the job's next instruction
  abbrev pub until : JobId → List Step → List Step
  until n xs = take_while (λ step. not (executes n step)) xs

  -- in some steps nobody else blocks a job, and until it executes it is there
  abbrev pub IsHeldBy : Option JobId → JobId → List Step → Type 0
  IsHeldBy b n xs =
      AreBy b (filter_map (lower_executor S n) xs) × AllByRecursion (λ x. HasReadyJob n x.executing.jobs) xs

  -- one step, and what follows where the watched job doesn't execute
  from_step : (w : Watch) (s : State) (x : Step) (xs : List Step) → IsRunState S s → IsStepFrom S s x → IsWatchedState S proper (Some w) x.executing
      → (IsRunState S x.after → IsWatchedState S proper (Some w) x.after → IsHeldBy w.by w.id (until w.id xs))
      → IsHeldBy w.by w.id (until w.id (x ∷ xs))
  from_step w s x xs good step watched later = go (executes w.id x) refl
    where
      next_good : IsRunState S x.after
      next_good = subst (IsRunState S) (sym step.after) (tick_ordered S proper step.arrived s step.going good)

      next_watched : executes w.id x ≡ false → IsWatchedState S proper (Some w) x.after
      next_watched e =
          subst (IsWatchedState S proper (Some w)) (sym step.after)
          (after_watched S proper (Some w) step.arrived s good
          (subst (λ z. IsOther (Some w) (executor z)) step.executing (not_executing w (executor x.executing) e))
          (subst (IsWatchedState S proper (Some w)) step.executing watched))

      go : (b : Bool) → executes w.id x ≡ b
          → IsHeldBy w.by w.id (take (cond (not b) (1 + prefix_len (λ y. not (executes w.id y)) xs) 0) (x ∷ xs))
      go true e = (tt, tt)
      go false e =
          let rest = later next_good (next_watched e) in
          subst (λ n. IsHeldBy w.by w.id (take n (x ∷ xs))) (one_more (prefix_len (λ y. not (executes w.id y)) xs)) (
            cons_by w.by (lower_executor S w.id x) (filter_map (lower_executor S w.id) (until w.id xs)) (step_by w x watched) rest.0,
            (watched.here, rest.1),
          )
        where
          one_more : (n : ℕ) → suc n ≡ 1 + n
          one_more n = omega arith

  -- from a state on
  from_state : (w : Watch) (s : State) (xs : List Step) → IsChain S s xs → IsRunState S s → IsWatchedState S proper (Some w) s
      → IsHeldBy w.by w.id (until w.id xs)
  from_state w s [] chain good watched = (tt, tt)
  from_state w s (x ∷ xs) chain good watched =
      from_step w s x xs good chain.0 (subst (IsWatchedState S proper (Some w)) (sym chain.0.executing) (before_watched S proper (Some w) chain.0.arrived s good watched))
      (from_state w x.after xs chain.1)

  -- ---- a job becomes ready

  ready_found : (n : JobId) (jobs : List Job) (j : Job) → find (λ k. same_id k.id n) jobs ≡ Some j → waits j ≡ false → HasReadyJob n jobs
  ready_found n [] j e ready = absurd (grind arith)
  ready_found n (x ∷ jobs) j e ready = go (same_id x.id n) refl e (ready_found n jobs j)
    where
      go : (b : Bool) → same_id x.id n ≡ b → cond b (Some x) (find (λ k. same_id k.id n) jobs) ≡ Some j
          → (find (λ k. same_id k.id n) jobs ≡ Some j → waits j ≡ false → HasReadyJob n jobs) → HasReadyJob n (x ∷ jobs)
      go true h k rest = inl (same_ids x.id n h, (let same : x ≡ j = grind arith in ap waits same ∙ ready))
      go false h k rest = inr (rest k ready)

  ready_in : (old new : State) (n : JobId) → becomes_ready old new n ≡ true → HasReadyJob n new.jobs
  ready_in old new n h =
      let both = and_parts (is_in_state new n) (not (waits_in new n)) (and_parts (is_in_state new n && not (waits_in new n)) _ h).0 in
      go (job_of n new.jobs) refl both.0 both.1
    where
      unwait : (b : Bool) → not b ≡ true → b ≡ false
      unwait false e = refl
      unwait true e = clash (sym e)

      go : (o : Option Job) → job_of n new.jobs ≡ o → is_some o ≡ true → not (is_waiting_job o) ≡ true → HasReadyJob n new.jobs
      go None e some ready = clash (sym some)
      go (Some j) e some ready = ready_found n new.jobs j e (unwait (waits j) ready)

  abbrev pub BlockedOnce : JobId → List Step → Type 0
  BlockedOnce n xs = (b : Option JobId) × IsHeldBy b n (until n xs)

  after_state : (n : JobId) (s : State) (xs : List Step) → IsChain S s xs → IsPlainState S proper s → HasReadyJob n s.jobs → BlockedOnce n xs
  after_state n s xs chain plain_state here =
      let watch = watch_from S proper s plain_state.good plain_state.watched n here in
      (watch.0, from_state (record { id = n; by = watch.0 }) s xs chain plain_state.good watch.1)

  at_step : (n : JobId) (s : State) (x : Step) (xs : List Step) → IsStepFrom S s x → IsChain S x.after xs → IsPlainState S proper s → HasReadyJob n x.executing.jobs → BlockedOnce n (x ∷ xs)
  at_step n s x xs step chain plain_state here =
      let good : IsRunState S x.executing = subst (IsRunState S) (sym step.executing) (before_executing S proper step.arrived s plain_state.good).good in
      let none : IsWatchedState S proper None x.executing =
      subst (IsWatchedState S proper None) (sym step.executing) (before_watched S proper None step.arrived s plain_state.good plain_state.watched) in
      let watch = watch_from S proper x.executing good none n here in (
        watch.0,
        from_step (record { id = n; by = watch.0 }) s x xs plain_state.good step watch.1
            (from_state (record { id = n; by = watch.0 }) x.after xs chain),
      )

  next_plain : (s : State) (x : Step) → IsStepFrom S s x → IsPlainState S proper s → IsPlainState S proper x.after
  next_plain s x step plain_state = subst (IsPlainState S proper) (sym step.after) (tick_plain S proper step.arrived s step.going plain_state)

  -- a job that becomes ready in a step or after it
  ready_at : (n : JobId) (old s : State) (xs : List Step) (u : ℕ) → IsChain S s xs → IsPlainState S proper s → becomes_ready_in old (slice_get xs u) n ≡ true → BlockedOnce n (drop u xs)
  ready_at n old s [] u chain plain_state h = clash (sym h)
  ready_at n old s (x ∷ xs) zero chain plain_state h = at_step n s x xs chain.0 chain.1 plain_state (ready_in old x.executing n h)
  ready_at n old s (x ∷ xs) (suc u) chain plain_state h = ready_at n old x.after xs u chain.1 (next_plain s x chain.0 plain_state) h

  ready_after : (n : JobId) (s : State) (xs : List Step) (u : ℕ) → IsChain S s xs → IsPlainState S proper s → becomes_ready_after (slice_get xs u) n ≡ true → BlockedOnce n (drop (suc u) xs)
  ready_after n s [] u chain plain_state h = clash (sym h)
  ready_after n s (x ∷ xs) zero chain plain_state h =
      after_state n x.after xs chain.1 (next_plain s x chain.0 plain_state) (ready_in x.executing x.after n h)
  ready_after n s (x ∷ xs) (suc u) chain plain_state h = ready_after n x.after xs u chain.1 (next_plain s x chain.0 plain_state) h

  steps_block : (n : JobId) (s : State) (xs : List Step) (u : ℕ) → IsChain S s xs → IsPlainState S proper s → is_ready_from S s xs u n ≡ true
      → BlockedOnce n (drop u xs)
  steps_block n s xs zero chain plain_state h = go (or_cases (becomes_ready (still S) s n) (becomes_ready_in s (slice_get xs 0) n) h)
    where
      go : (becomes_ready (still S) s n ≡ true) ⊎ (becomes_ready_in s (slice_get xs 0) n ≡ true) → BlockedOnce n (drop 0 xs)
      go (inl first) = after_state n s xs chain plain_state (ready_in (still S) s n first)
      go (inr later) = ready_at n s s xs 0 chain plain_state later
  steps_block n s xs (suc u) chain plain_state h =
      go (or_cases (becomes_ready_after (slice_get xs u) n) (becomes_ready_in (state_after s (slice_get xs u)) (slice_get xs (suc u)) n) h)
    where
      go : (becomes_ready_after (slice_get xs u) n ≡ true) ⊎ (becomes_ready_in (state_after s (slice_get xs u)) (slice_get xs (suc u)) n ≡ true) → BlockedOnce n (drop (suc u) xs)
      go (inl after) = ready_after n s xs u chain plain_state after
      go (inr later) = ready_at n (state_after s (slice_get xs u)) s xs (suc u) chain plain_state later

-- in every run, from where a job becomes ready
pub run_blocks : (S : System) (mode : ℕ) (arrivals : List Arrival) (n u : ℕ) (job : JobId) (proper : IsProper S)
    → is_ready_from S (boot S mode).state (run S mode arrivals n).steps u job ≡ true
    → BlockedOnce S proper job (drop u (run S mode arrivals n).steps)
run_blocks S mode arrivals n u job proper ready =
    steps_block S proper job (boot S mode).state (run S mode arrivals n).steps u (run_chained S proper mode arrivals n).chain
    (boot_plain S proper mode (boot_ordered S proper mode)) ready

-- single blocking, in every run
pub blocks_once : (S : System) (mode : ℕ) (arrivals : List Arrival) (n : ℕ) → IsProper S → BlocksOnce S mode arrivals n
blocks_once S mode arrivals n proper u job ready =
    let held = run_blocks S mode arrivals n u job proper ready in
    at_most_one held.0 (filter_map (lower_executor S job) (until S proper job (drop u (run S mode arrivals n).steps))) held.1.0

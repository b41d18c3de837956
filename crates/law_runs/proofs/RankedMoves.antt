-- Jobs that end, are made, released, moved on and dispatched keep who comes before whom.
use Rattle.std.proofs.Common.{◌≡◌, ℕ, ◌<◌, ◌≤◌, ◌⊎◌, inl, inr, Bool, true, false, cond, max, not, List, [], ◌∷◌, ◌++◌, map, refl, sym, ◌∙◌, ap, subst, arith}
use Rattle.std.specs.Prelude.{Option, Some, None, is_some, slice_index}
use Rattle.std.specs.List.{filter, AllByRecursion}
use Rattle.std.specs.Option.{option_map, unwrap_or}
use Rattle.osek_base.specs.Lists.{greatest}
use Rattle.osek_base.specs.System.{System}
use Rattle.osek_base.specs.Ceiling.{ceiling, internal_ceiling}
use Rattle.osek_base.specs.Instruction.{Context}
use Rattle.osek_base.specs.State.{Job, JobId, State, may_dispatch, same_id, waits, jobs_but, with_job}
use Rattle.osek_base.specs.Priority.{static_priority, dynamic_priority}
use Rattle.osek_base.specs.Choice.{choice}
use Rattle.osek_base.specs.Activation.{activated, new_job, released, woken}
use Rattle.osek_base.specs.Reschedule.{entered, id_of, jobs_entered, switched, with_dispatch_of, reschedule}
use Rattle.osek_base.specs.GoodState.{is_raised}
use Rattle.osek_base.specs.Tick.{job_moved}
use Rattle.law_runs.proofs.Lists.{some_inside, none_some, Pairs, EitherWay, clash, all_weaker, all_any, all_kept, all_filter, all_append, all_map, found, pairs_weaker, pairs_of_all, pairs_kept, pairs_map, pairs_append, either_way}
use Rattle.law_runs.proofs.Foremost.{AreApart, same_self, only, idle_priority}
use Rattle.law_runs.proofs.Single.{IsSoundPair, HasRunner, AreSingle, IsSingle}
use Rattle.law_runs.proofs.Ranked.{IsRankedPair, IsBehind, IsStill, AreRanked, HasReady, IsDispatched, HasDispatched, IsHeightened, idle_unraised, redispatched, heightened, still_dispatched, choice_dispatched}

module _ (S : System) where
  -- ---- some jobs go

  pub kept_ranked : (test : Job → Bool) (running : Option JobId) (jobs : List Job) → AreRanked S running jobs → AreRanked S running (filter test jobs)
  kept_ranked test running jobs ranked = record {
    still = all_kept IsStill test jobs ranked.still;
    pairs = pairs_kept (IsRankedPair S) test jobs ranked.pairs;
    behind = pairs_kept (IsBehind S running) test jobs ranked.behind;
  }

  -- ---- a job goes on in its program

  moved_pair : (z : Context) (x y : Job) (a b : Bool) → IsRankedPair S x y → IsRankedPair S (cond a (job_moved z x) x) (cond b (job_moved z y) y)
  moved_pair z x y true true h = record { older = h.older; later_across = h.later_across; earlier_across = h.earlier_across }
  moved_pair z x y true false h = record { older = h.older; later_across = h.later_across; earlier_across = h.earlier_across }
  moved_pair z x y false true h = record { older = h.older; later_across = h.later_across; earlier_across = h.earlier_across }
  moved_pair z x y false false h = h

  moved_behind : (z : Context) (running : Option JobId) (x y : Job) (a b : Bool) → IsBehind S running x y → IsBehind S running (cond a (job_moved z x) x) (cond b (job_moved z y) y)
  moved_behind z running x y true true h = h
  moved_behind z running x y true false h = h
  moved_behind z running x y false true h = h
  moved_behind z running x y false false h = h

  moved_still : (z : Context) (x : Job) (a : Bool) → IsStill x → IsStill (cond a (job_moved z x) x)
  moved_still z x true h = h
  moved_still z x false h = h

  pub moved_ranked : (n : JobId) (z : Context) (running : Option JobId) (jobs : List Job) → AreRanked S running jobs → AreRanked S running (with_job n (job_moved z) jobs)
  moved_ranked n z running jobs ranked = record {
    still = all_map IsStill IsStill (λ j. cond (same_id j.id n) (job_moved z j) j) jobs (λ j h. moved_still z j (same_id j.id n) h) ranked.still;
    pairs = pairs_map (IsRankedPair S) (IsRankedPair S) (λ j. cond (same_id j.id n) (job_moved z j) j) jobs
        (λ x y h. moved_pair z x y (same_id x.id n) (same_id y.id n) h) ranked.pairs;
    behind = pairs_map (IsBehind S running) (IsBehind S running) (λ j. cond (same_id j.id n) (job_moved z j) j) jobs
        (λ x y h. moved_behind z running x y (same_id x.id n) (same_id y.id n) h) ranked.behind;
  }

  -- a change that keeps ids and who waits
  pub same_ready : (n : JobId) (f : Job → Job) (running : Option JobId) (jobs : List Job) → ((j : Job) → (f j).id ≡ j.id) → ((j : Job) → waits (f j) ≡ waits j)
      → HasReady running jobs → HasReady running (with_job n f jobs)
  same_ready n f running jobs ids same ready =
      all_map (λ j. running ≡ Some j.id → waits j ≡ false) (λ j. running ≡ Some j.id → waits j ≡ false) (λ j. cond (same_id j.id n) (f j) j) jobs
      (λ j h. go j (same_id j.id n) h) ready
    where
      go : (j : Job) (b : Bool) → (running ≡ Some j.id → waits j ≡ false) → running ≡ Some (cond b (f j) j).id → waits (cond b (f j) j) ≡ false
      go j true h e = same j ∙ h (e ∙ ap Some (ids j))
      go j false h e = h e

  -- ---- jobs come last

  -- a job that holds and has taken nothing and doesn't run
  pub record IsNewest (running : Option JobId) (j : Job) : Type 0 where
    pub level : dynamic_priority S j ≡ static_priority S j
    pub unraised : is_raised S j ≡ false
    pub still : IsStill j
    pub stopped : running ≡ Some j.id → ⊥

  newest_pair : (running : Option JobId) (x y : Job) → IsNewest running y → IsRankedPair S x y
  newest_pair running x y new = record {
    older = λ raised ready le ge. clash (sym raised ∙ new.unraised);
    later_across = λ raised ready le. subst (λ n. n ≤ dynamic_priority S x) (sym new.level) le;
    earlier_across = λ raised ready le. clash (sym raised ∙ new.unraised);
  }

  newest_behind : (running : Option JobId) (x y : Job) → IsNewest running y → IsBehind S running x y
  newest_behind running x y new runs ready le ge = new.stopped runs

  pub append_ranked : (running : Option JobId) (jobs more : List Job) → AreRanked S running jobs → AllByRecursion (IsNewest running) more
      → AreRanked S running (jobs ++ more)
  append_ranked running jobs more ranked new = record {
    still = all_append IsStill jobs more ranked.still (all_weaker (IsNewest running) IsStill more (λ j h. h.still) new);
    pairs = pairs_append (IsRankedPair S) jobs more ranked.pairs
        (pairs_weaker (λ x y. IsNewest running x × IsNewest running y) (IsRankedPair S) more (λ x y h. newest_pair running x y h.1) (pairs_of_all (IsNewest running) more new))
        (all_any (λ x. AllByRecursion (IsRankedPair S x) more) jobs (λ x. all_weaker (IsNewest running) (IsRankedPair S x) more (newest_pair running x) new));
    behind = pairs_append (IsBehind S running) jobs more ranked.behind
        (pairs_weaker (λ x y. IsNewest running x × IsNewest running y) (IsBehind S running) more (λ x y h. newest_behind running x y h.1) (pairs_of_all (IsNewest running) more new))
        (all_any (λ x. AllByRecursion (IsBehind S running x) more) jobs (λ x. all_weaker (IsNewest running) (IsBehind S running x) more (newest_behind running x) new));
  }

  pub append_ready : (running : Option JobId) (jobs more : List Job) → HasReady running jobs → AllByRecursion (IsNewest running) more → HasReady running (jobs ++ more)
  append_ready running jobs more ready new =
      all_append (λ j. running ≡ Some j.id → waits j ≡ false) jobs more ready
      (all_weaker (IsNewest running) (λ j. running ≡ Some j.id → waits j ≡ false) more (λ j h e. absurd (h.stopped e)) new)

  -- what idle jobs are, that don't run
  idle_newest : (running : Option JobId) (j : Job) → j.held ≡ [] → j.taken ≡ false → (running ≡ Some j.id → ⊥) → IsNewest running j
  idle_newest running j held taken stopped =
      let level : dynamic_priority S j ≡ static_priority S j = idle_priority S j held taken in
      record { level = level; unraised = idle_unraised S j held level; still = λ w. (held, taken); stopped = stopped }

  -- a state's jobs, ranked and the running one ready
  pub record IsOrdered (running : Option JobId) (jobs : List Job) : Type 0 where
    pub ranked : AreRanked S running jobs
    pub ready : HasReady running jobs

  -- the job that an activation makes
  abbrev pub made_job : ℕ → State → Job
  made_job t s = new_job (record { task = t; serial = slice_index s.made t })

  pub made_newest : (t : ℕ) (s : State) → IsSingle S s → IsNewest s.running (made_job t s)
  made_newest t s single = idle_newest s.running (made_job t s) refl refl (unrun s.running single.runs)
    where
      unrun : (o : Option JobId) → HasRunner s.made s.jobs o → o ≡ Some (made_job t s).id → ⊥
      unrun None h e = none_some (made_job t s).id e
      unrun (Some r) h e =
          let same : r ≡ (made_job t s).id = some_inside r (made_job t s).id e in
          let less : slice_index s.made t < slice_index s.made t = subst (λ (n : JobId). n.serial < slice_index s.made n.task) same h.given in
          absurd (omega arith)

  pub activated_ordered : (t : ℕ) (s : State) → IsSingle S s → IsOrdered s.running s.jobs → IsOrdered s.running (activated S t s).jobs
  unfolding activated
  activated_ordered t s single ordered = record {
    ranked = append_ranked s.running s.jobs (made_job t s ∷ []) ordered.ranked (made_newest t s single, tt);
    ready = append_ready s.running s.jobs (made_job t s ∷ []) ordered.ready (made_newest t s single, tt);
  }

  -- the jobs that a release puts last
  abbrev pub woken_jobs : Job → State → List Job
  woken_jobs j s = map woken (filter (λ k. same_id k.id j.id) s.jobs)

  pub woken_newest : (j : Job) (s : State) → ((P : Job → Type 0) → AllByRecursion P s.jobs → P j) → waits j ≡ true
      → Pairs AreApart s.jobs → IsOrdered s.running s.jobs → AllByRecursion (IsNewest s.running) (woken_jobs j s)
  woken_newest j s member waiting apart ordered =
      all_map (λ k. (same_id k.id j.id ≡ true → k ≡ j) × (same_id k.id j.id ≡ true)) (IsNewest s.running) woken (filter (λ k. same_id k.id j.id) s.jobs) (λ k h. one k (h.0 h.1))
      (all_filter (λ k. same_id k.id j.id ≡ true → k ≡ j) (λ k. same_id k.id j.id) s.jobs itself)
    where
      itself : AllByRecursion (λ k. same_id k.id j.id ≡ true → k ≡ j) s.jobs
      itself = only j s.jobs (member (λ x. AllByRecursion (EitherWay AreApart x) s.jobs) (either_way AreApart s.jobs apart))

      idle : (j.held ≡ []) × (j.taken ≡ false)
      idle = member IsStill ordered.ranked.still waiting

      stopped : s.running ≡ Some j.id → ⊥
      stopped e = clash (sym waiting ∙ member (λ k. s.running ≡ Some k.id → waits k ≡ false) ordered.ready e)

      one : (k : Job) → k ≡ j → IsNewest s.running (woken k)
      one k same = subst (λ z. IsNewest s.running (woken z)) (sym same) (idle_newest s.running (woken j) idle.0 idle.1 stopped)

  pub released_ordered : (j : Job) (s : State) → ((P : Job → Type 0) → AllByRecursion P s.jobs → P j) → waits j ≡ true
      → Pairs AreApart s.jobs → IsOrdered s.running s.jobs → IsOrdered s.running (released j.id s).jobs
  unfolding released
  released_ordered j s member waiting apart ordered = record {
    ranked = append_ranked s.running (jobs_but j.id s.jobs) (woken_jobs j s) (kept_ranked (λ k. not (same_id k.id j.id)) s.running s.jobs ordered.ranked)
        (woken_newest j s member waiting apart ordered);
    ready = append_ready s.running (jobs_but j.id s.jobs) (woken_jobs j s)
        (all_kept (λ k. s.running ≡ Some k.id → waits k ≡ false) (λ k. not (same_id k.id j.id)) s.jobs ordered.ready)
        (woken_newest j s member waiting apart ordered);
  }

  -- ---- a job enters running

  enters_higher : (o : Option ℕ) (taken : Bool) (m n : ℕ)
      → max m (max n (cond taken (unwrap_or o 0) 0)) ≤ max m (max n (cond (is_some o) (unwrap_or o 0) 0))
  enters_higher None true m n = omega arith
  enters_higher None false m n = omega arith
  enters_higher (Some v) true m n = omega arith
  enters_higher (Some v) false m n = omega arith

  -- what is known of the job that is chosen
  pub record IsChosen (jobs : List Job) (c : Job) : Type 0 where
    pub apart : Pairs AreApart jobs
    pub itself : AllByRecursion (λ k. same_id k.id c.id ≡ true → k ≡ c) jobs
    pub dispatched : IsDispatched S jobs c

  pub chosen : (made : List ℕ) (running : Option JobId) (jobs : List Job) (c : Job) → choice S jobs ≡ Some c → AreSingle S made running jobs
      → AreRanked S running jobs → IsChosen jobs c
  chosen made running jobs c e single ranked =
      let apart : Pairs AreApart jobs = pairs_weaker (IsSoundPair S) AreApart jobs (λ x y h. h.apart) single.pairs in
      record {
        apart = apart;
        itself = only c jobs (found (λ x. AllByRecursion (EitherWay AreApart x) jobs) _ jobs c (either_way AreApart jobs apart) e).0;
        dispatched = choice_dispatched S jobs c apart ranked.pairs e;
      }

  -- what a reschedule leaves
  pub record IsRescheduled (running : Option JobId) (jobs : List Job) : Type 0 where
    pub ordered : IsOrdered running jobs
    pub dispatched : HasDispatched S running jobs

  pub chosen_rescheduled : (made : List ℕ) (running : Option JobId) (jobs : List Job) (o : Option Job) → choice S jobs ≡ o → AreSingle S made running jobs
      → AreRanked S running jobs → IsRescheduled (option_map id_of o) (jobs_entered S o jobs)
  chosen_rescheduled made running jobs None e single ranked = record {
    ordered = record {
      ranked = record {
        still = ranked.still;
        pairs = ranked.pairs;
        behind = pairs_weaker (IsBehind S running) (IsBehind S None) jobs (λ x y h runs ready le ge. none_some y.id runs) ranked.behind;
      };
      ready = all_any (λ j. None ≡ Some j.id → waits j ≡ false) jobs (λ j runs. absurd (none_some j.id runs));
    };
    dispatched = all_any (λ c. None ≡ Some c.id → IsDispatched S jobs c) jobs (λ c runs. absurd (none_some c.id runs));
  }
  chosen_rescheduled made running jobs (Some c) e single ranked = record {
    ordered = record {
      ranked = redispatched S (entered S) c jobs facts.apart facts.itself facts.dispatched (heightened S c (entered S c) higher) ranked.still ranked.pairs;
      ready = all_map (λ k. same_id k.id c.id ≡ true → k ≡ c) (λ k. Some c.id ≡ Some k.id → waits k ≡ false) g jobs
          (λ k one. entered_ready k (same_id k.id c.id) refl one) facts.itself;
    };
    dispatched = all_map (λ k. same_id k.id c.id ≡ true → k ≡ c) (λ k. Some c.id ≡ Some k.id → IsDispatched S (map g jobs) k) g jobs
        (λ k one. entered_dispatched k (same_id k.id c.id) refl one) facts.itself;
  }
    where
      g : Job → Job
      g j = cond (same_id j.id c.id) (entered S j) j

      facts : IsChosen jobs c
      facts = chosen made running jobs c e single ranked

      higher : IsHeightened S c (entered S c)
      higher = record {
        id = refl;
        up = enters_higher (internal_ceiling S c.id.task) c.taken (static_priority S c) (greatest (map (ceiling S) c.held));
        ready = facts.dispatched.ready;
      }

      not_same : {Y : Type 0} (k : Job) → same_id k.id c.id ≡ false → Some c.id ≡ Some k.id → Y
      not_same k other runs = clash (sym (same_self c.id) ∙ ap (λ n. same_id n c.id) (some_inside c.id k.id runs) ∙ other)

      entered_ready : (k : Job) (b : Bool) → same_id k.id c.id ≡ b → (same_id k.id c.id ≡ true → k ≡ c) → Some c.id ≡ Some (cond b (entered S k) k).id
          → waits (cond b (entered S k) k) ≡ false
      entered_ready k true same one runs = ap waits (one same) ∙ facts.dispatched.ready
      entered_ready k false other one runs = not_same k other runs

      entered_dispatched : (k : Job) (b : Bool) → same_id k.id c.id ≡ b → (same_id k.id c.id ≡ true → k ≡ c) → Some c.id ≡ Some (cond b (entered S k) k).id
          → IsDispatched S (map g jobs) (cond b (entered S k) k)
      entered_dispatched k true same one runs =
          subst (λ z. IsDispatched S (map g jobs) (entered S z)) (sym (one same)) (still_dispatched S (entered S) c jobs facts.apart facts.itself facts.dispatched higher)
      entered_dispatched k false other one runs = not_same k other runs

  -- the running job is ready, or a reschedule comes
  abbrev pub IsReadyOrDue : State → Option JobId → List Job → Type 0
  IsReadyOrDue s running jobs = HasReady running jobs ⊎ (may_dispatch s ≡ true)

  pub record IsAfterReschedule (s : State) (t : State) : Type 0 where
    pub ordered : IsOrdered t.running t.jobs
    pub dispatched : may_dispatch s ≡ true → HasDispatched S t.running t.jobs

  pub reschedule_ordered : (s : State) → IsSingle S s → AreRanked S s.running s.jobs → IsReadyOrDue s s.running s.jobs → IsAfterReschedule s (reschedule S s).state
  unfolding reschedule
  reschedule_ordered s single ranked ready = go (may_dispatch s) refl ready
    where
      go : (b : Bool) → may_dispatch s ≡ b → IsReadyOrDue s s.running s.jobs
          → IsAfterReschedule s (with_dispatch_of s (cond b (switched S (choice S s.jobs) s) (record { events = []; state = s }))).state
      go true e either =
          let left : IsRescheduled (option_map id_of (choice S s.jobs)) (jobs_entered S (choice S s.jobs) s.jobs) =
          chosen_rescheduled s.made s.running s.jobs (choice S s.jobs) refl single ranked in
          record { ordered = left.ordered; dispatched = λ h. left.dispatched }
      go false e (inl here) = record { ordered = record { ranked = ranked; ready = here }; dispatched = λ h. clash (sym h ∙ e) }
      go false e (inr due) = clash (sym due ∙ e)

-- Of a task, how many jobs a service makes, leaves and ends.
use Rattle.std.proofs.Common.{ℕ, suc, ◌≡◌, ◌<◌, ◌≤◌, ◌+◌, Bool, true, false, cond, List, [], ◌∷◌, map, set, length, refl, sym, ◌∙◌, ap, subst, arith, length-set}
use Rattle.std.specs.Prelude.{Some, None, ◌==◌, slice_index, bit_or}
use Rattle.std.specs.List.{filter, AllByRecursion}
use Rattle.std.proofs.lemmas.List.{get_or-set_other}
use Rattle.std.proofs.lemmas.Grind.{get_or-set_at}
use Rattle.std.proofs.lemmas.Bool.{eqb-false}
use Rattle.osek_base.specs.declared.instr.Service.{Service}
use Rattle.osek_base.specs.Types.{ServiceCall}
use Rattle.osek_base.specs.System.{System}
use Rattle.osek_base.specs.State.{Job, JobId, State, same_id, job_of, jobs_of, jobs_but, with_job}
use Rattle.osek_base.specs.Activation.{activated, new_job, released, woken, ended}
use Rattle.osek_base.specs.Service.{Caller, JobCalls, RoutineCalls, NobodyCalls, first_refusal, refusals, with_caller, caller_ended, is_outranked, given_up, gets, releases, waiting_for, meets, is_met, released_by, with_events, events_cleared, event_awaited, effect}
use Rattle.law_runs.proofs.Lists.{Pairs, clash, all_weaker, all_any, all_filter}
use Rattle.law_runs.proofs.Foremost.{AreApart, equal, same_ids}
use Rattle.law_runs.proofs.Known.{IsCaller, all_passed}
use Rattle.law_runs.proofs.Formed.{count_append, count_map, count_split}
use Rattle.law_runs.specs.Jobs.{one_if}

-- ---- lists of jobs

filter_none : {X : Type 0} (p : X → Bool) (xs : List X) → AllByRecursion (λ x. p x ≡ false) xs → filter p xs ≡ []
filter_none p [] all = refl
filter_none p (x ∷ xs) all = rw all.0 (filter_none p xs all.1)

-- where ids tell jobs apart, one job has the id of a job that is found
one_of : (n : JobId) (js : List Job) (x : Job) → Pairs AreApart js → job_of n js ≡ Some x → length (filter (λ j. same_id j.id n) js) ≡ 1
one_of n [] x pairs found = absurd (grind (arith, found))
one_of n (y ∷ ys) x pairs found = go (same_id y.id n) refl found (one_of n ys x pairs.1)
  where
    go : (b : Bool) → same_id y.id n ≡ b → cond b (Some y) (job_of n ys) ≡ Some x → (job_of n ys ≡ Some x → length (filter (λ j. same_id j.id n) ys) ≡ 1)
        → length (cond b (y ∷ filter (λ j. same_id j.id n) ys) (filter (λ j. same_id j.id n) ys)) ≡ 1
    go true e h rest =
        let same : y.id ≡ n = same_ids y.id n e in
        let none : filter (λ j. same_id j.id n) ys ≡ [] =
        filter_none (λ j. same_id j.id n) ys
        (all_weaker (AreApart y) (λ j. same_id j.id n ≡ false) ys (λ j apart. subst (λ m. same_id j.id m ≡ false) same apart) pairs.0) in
        ap (λ (v : List Job). length (y ∷ v)) none
    go false e h rest = rest h

-- of jobs of one id all are of its task, or none
of_task : (t : ℕ) (n : JobId) (js : List Job) → AllByRecursion (λ j. same_id j.id n ≡ true) js
    → length (jobs_of t js) ≡ cond (n.task == t) (length js) 0
of_task t n [] all = both (n.task == t) 0
  where
    both : (b : Bool) (m : ℕ) → m ≡ cond b m m
    both true m = refl
    both false m = refl
of_task t n (x ∷ xs) all =
    let same : x.id.task ≡ n.task = ap (λ (m : JobId). m.task) (same_ids x.id n all.0) in
    ap (λ (m : ℕ). length (cond (m == t) (x ∷ jobs_of t xs) (jobs_of t xs))) same ∙ go (n.task == t) (of_task t n xs all.1)
  where
    go : (b : Bool) → length (jobs_of t xs) ≡ cond b (length xs) 0
        → length (cond b (x ∷ jobs_of t xs) (jobs_of t xs)) ≡ cond b (suc (length xs)) 0
    go true e = ap suc e
    go false e = e

module _ (S : System) (t : ℕ) where
  -- ---- the balance

  pub record Balances (ms : List ℕ) (js : List Job) (ns : List ℕ) (ks : List Job) (gone : ℕ) : Type 0 where
    pub size : length ns ≡ length ms
    pub more : slice_index ms t ≤ slice_index ns t
    pub even : slice_index ns t + length (jobs_of t js) ≡ slice_index ms t + length (jobs_of t ks) + gone

  abbrev pub BalancesTo : State → State → ℕ → Type 0
  BalancesTo s e gone = Balances s.made s.jobs e.made e.jobs gone

  pub stays : (ms : List ℕ) (js : List Job) → Balances ms js ms js 0
  stays ms js = record { size = refl; more = omega arith; even = omega arith }

  -- one after another, where the first or the second ends none
  pub then_more : (ms : List ℕ) (js : List Job) (ns : List ℕ) (ks : List Job) (os : List ℕ) (ls : List Job) (gone : ℕ)
      → Balances ms js ns ks 0 → Balances ns ks os ls gone → Balances ms js os ls gone
  then_more ms js ns ks os ls gone one two = record {
    size = two.size ∙ one.size;
    more = let first = one.more in let second = two.more in omega (arith, first, second);
    even = let first = one.even in let second = two.even in omega (arith, first, second);
  }

  pub then_none : (ms : List ℕ) (js : List Job) (ns : List ℕ) (ks : List Job) (os : List ℕ) (ls : List Job) (gone : ℕ)
      → Balances ms js ns ks gone → Balances ns ks os ls 0 → Balances ms js os ls gone
  then_none ms js ns ks os ls gone one two = record {
    size = two.size ∙ one.size;
    more = let first = one.more in let second = two.more in omega (arith, first, second);
    even = let first = one.even in let second = two.even in omega (arith, first, second);
  }

  -- ---- jobs are changed, made, released, ended

  changed : (ms : List ℕ) (js : List Job) (g : Job → Job) → ((j : Job) → (g j).id ≡ j.id) → Balances ms js ms (map g js) 0
  changed ms js g ids = record {
    size = refl;
    more = omega arith;
    even = let same = count_map (λ (j : Job). j.id.task == t) g js (λ j. ap (λ (m : JobId). m.task == t) (ids j)) in omega (arith, same);
  }

  pub with_one : (ms : List ℕ) (js : List Job) (n : JobId) (f : Job → Job) → ((j : Job) → (f j).id ≡ j.id) → Balances ms js ms (with_job n f js) 0
  with_one ms js n f ids = changed ms js (λ j. cond (same_id j.id n) (f j) j) (λ j. id j (same_id j.id n))
    where
      id : (j : Job) (b : Bool) → (cond b (f j) j).id ≡ j.id
      id j true = ids j
      id j false = refl

  pub activates : (u : ℕ) (s : State) → t < length s.made → BalancesTo s (activated S u s) 0
  unfolding activated
  activates u s inside = record {
    size = length-set s.made u (slice_index s.made u + 1);
    more = (go (u == t) refl).0;
    even = (let join = count_append (λ (j : Job). j.id.task == t) s.jobs (new ∷ []) in let here = (go (u == t) refl).1 in omega (arith, join, here));
  }
    where
      new : Job
      new = new_job (record { task = u; serial = slice_index s.made u })

      go : (b : Bool) → (u == t) ≡ b
          → (slice_index s.made t ≤ slice_index (set s.made u (slice_index s.made u + 1)) t)
          × (slice_index (set s.made u (slice_index s.made u + 1)) t ≡ slice_index s.made t + length (cond b (new ∷ []) []))
      go true is =
          let same : t ≡ u = sym (equal u t is) in
          let here : slice_index (set s.made u (slice_index s.made u + 1)) t ≡ slice_index s.made u + 1 =
          get_or-set_at s.made u t (slice_index s.made u + 1) 0 same (omega (arith, inside, same)) in
          let was : slice_index s.made u ≡ slice_index s.made t = ap (slice_index s.made) (sym same) in
          (omega (arith, here, was), omega (arith, here, was))
      go false is =
          let here : slice_index (set s.made u (slice_index s.made u + 1)) t ≡ slice_index s.made t =
          get_or-set_other s.made u t (slice_index s.made u + 1) 0 (λ same. eqb-false u t is (sym same)) in
          (omega (arith, here), omega (arith, here))

  pub releases_one : (n : JobId) (s : State) → BalancesTo s (released n s) 0
  unfolding released
  releases_one n s = record {
    size = refl;
    more = omega arith;
    even = (let split = count_split (λ (j : Job). j.id.task == t) (λ j. same_id j.id n) s.jobs in
        let join = count_append (λ (j : Job). j.id.task == t) (jobs_but n s.jobs) (map woken (filter (λ j. same_id j.id n) s.jobs)) in
        let same = count_map (λ (j : Job). j.id.task == t) woken (filter (λ j. same_id j.id n) s.jobs) (λ j. refl) in
        omega (arith, split, join, same));
  }

  -- how many jobs of the task end with a service that is answered E_OK
  abbrev pub own : Caller → ℕ
  own (JobCalls j) = one_if (j.id.task == t)
  own (RoutineCalls a) = 0
  own NobodyCalls = 0

  abbrev pub ending : ServiceCall → Caller → ℕ
  ending Service.TerminateTask c = own c
  ending (Service.ChainTask u) c = own c
  ending call c = 0

  ends_one : (j : Job) (s : State) → IsCaller s (JobCalls j) → Pairs AreApart s.jobs → BalancesTo s (ended j.id s) (one_if (j.id.task == t))
  ends_one j s calls pairs = record {
    size = refl;
    more = omega arith;
    even = (let split = count_split (λ (k : Job). k.id.task == t) (λ k. same_id k.id j.id) s.jobs in
        let one = here in
        omega (arith, split, one));
  }
    where
      of_id : List Job
      of_id = filter (λ k. same_id k.id j.id) s.jobs

      all_of : AllByRecursion (λ k. same_id k.id j.id ≡ true) (filter (λ k. same_id k.id j.id) s.jobs)
      all_of =
          all_weaker (λ k. Unit {0} × (same_id k.id j.id ≡ true)) (λ k. same_id k.id j.id ≡ true) (filter (λ k. same_id k.id j.id) s.jobs) (λ k h. h.1)
          (all_filter (λ k. Unit {0}) (λ k. same_id k.id j.id) s.jobs (all_any (λ k. Unit {0}) s.jobs (λ k. tt)))

      count : (b : Bool) (n : ℕ) → n ≡ 1 → cond b n 0 ≡ one_if b
      count true n e = e
      count false n e = refl

      here : length (jobs_of t (filter (λ k. same_id k.id j.id) s.jobs)) ≡ one_if (j.id.task == t)
      here =
          of_task t j.id (filter (λ k. same_id k.id j.id) s.jobs) all_of
          ∙ count (j.id.task == t) (length (filter (λ k. same_id k.id j.id) s.jobs)) (one_of j.id s.jobs j pairs calls.found)

  -- ---- by service

  with_caller_even : (c : Caller) (f : Job → Job) (s : State) → ((j : Job) → (f j).id ≡ j.id) → BalancesTo s (with_caller c f s) 0
  with_caller_even (JobCalls j) f s ids = with_one s.made s.jobs j.id f ids
  with_caller_even (RoutineCalls a) f s ids = stays s.made s.jobs
  with_caller_even NobodyCalls f s ids = stays s.made s.jobs

  pub released_by_even : (set : ℕ) (js : List Job) (s : State) → BalancesTo s (released_by set js s) 0
  released_by_even set [] s = stays s.made s.jobs
  released_by_even set (j ∷ js) s = go (is_met set j.waits_for)
    where
      go : (b : Bool) → BalancesTo s (cond b (released j.id s) s) 0
      go true = releases_one j.id s
      go false = stays s.made s.jobs

  awaited_even : (c : Caller) (m : ℕ) (s : State) → BalancesTo s (event_awaited c m s) 0
  awaited_even (JobCalls j) m s = go (meets m (slice_index s.masks j.id.task))
    where
      go : (b : Bool) → BalancesTo s (cond b s (record s { jobs = with_job j.id (waiting_for m) s.jobs })) 0
      go true = stays s.made s.jobs
      go false = with_one s.made s.jobs j.id (waiting_for m) (λ k. refl)
  awaited_even (RoutineCalls a) m s = stays s.made s.jobs
  awaited_even NobodyCalls m s = stays s.made s.jobs

  cleared_even : (c : Caller) (m : ℕ) (s : State) → BalancesTo s (events_cleared c m s) 0
  cleared_even (JobCalls j) m s = stays s.made s.jobs
  cleared_even (RoutineCalls a) m s = stays s.made s.jobs
  cleared_even NobodyCalls m s = stays s.made s.jobs

  scheduled_even : (c : Caller) (s : State) (b : Bool) → BalancesTo s (cond b (with_caller c given_up s) s) 0
  scheduled_even c s true = with_caller_even c given_up s (λ k. refl)
  scheduled_even c s false = stays s.made s.jobs

  terminated : (c : Caller) (s : State) → IsCaller s c → Pairs AreApart s.jobs → BalancesTo s (caller_ended c s) (own c)
  terminated (JobCalls j) s calls pairs = ends_one j s calls pairs
  terminated (RoutineCalls a) s calls pairs = stays s.made s.jobs
  terminated NobodyCalls s calls pairs = stays s.made s.jobs

  same_made : (c : Caller) (s : State) → (caller_ended c s).made ≡ s.made
  same_made (JobCalls j) s = refl
  same_made (RoutineCalls a) s = refl
  same_made NobodyCalls s = refl

  chained : (c : Caller) (u : ℕ) (s : State) → t < length s.made → IsCaller s c → Pairs AreApart s.jobs
      → BalancesTo s (activated S u (caller_ended c s)) (own c)
  chained c u s inside calls pairs =
      then_none s.made s.jobs (caller_ended c s).made (caller_ended c s).jobs (activated S u (caller_ended c s)).made (activated S u (caller_ended c s)).jobs
      (own c) (terminated c s calls pairs) (activates u (caller_ended c s) (subst (λ (ms : List ℕ). t < length ms) (sym (same_made c s)) inside))

  pub effect_even : (s : State) (c : Caller) (call : ServiceCall) → t < length s.made → IsCaller s c → Pairs AreApart s.jobs
      → first_refusal (refusals S c s call) ≡ None → BalancesTo s (effect S c s call) (ending call c)
  effect_even s c (Service.ActivateTask None) inside calls pairs free = stays s.made s.jobs
  effect_even s c (Service.ActivateTask (Some u)) inside calls pairs free = activates u s inside
  effect_even s c Service.TerminateTask inside calls pairs free = terminated c s calls pairs
  effect_even s c (Service.ChainTask None) inside calls pairs free = clash (all_passed (refusals S c s (Service.ChainTask None)) free).1.0
  effect_even s c (Service.ChainTask (Some u)) inside calls pairs free = chained c u s inside calls pairs
  effect_even s c Service.Schedule inside calls pairs free = scheduled_even c s (is_outranked S c s.jobs)
  effect_even s c Service.GetTaskId inside calls pairs free = stays s.made s.jobs
  effect_even s c (Service.GetTaskState o) inside calls pairs free = stays s.made s.jobs
  effect_even s c (Service.GetResource None) inside calls pairs free = stays s.made s.jobs
  effect_even s c (Service.GetResource (Some r)) inside calls pairs free = with_caller_even c (gets r) s (λ k. refl)
  effect_even s c (Service.ReleaseResource None) inside calls pairs free = stays s.made s.jobs
  effect_even s c (Service.ReleaseResource (Some r)) inside calls pairs free = with_caller_even c releases s (λ k. refl)
  effect_even s c (Service.LoadShared o n) inside calls pairs free = stays s.made s.jobs
  effect_even s c (Service.StoreShared None n v) inside calls pairs free = stays s.made s.jobs
  effect_even s c (Service.StoreShared (Some r) n v) inside calls pairs free = stays s.made s.jobs
  effect_even s c (Service.SetEvent None m) inside calls pairs free = stays s.made s.jobs
  effect_even s c (Service.SetEvent (Some u) m) inside calls pairs free =
      released_by_even (bit_or (slice_index s.masks u) m) (jobs_of u s.jobs) (with_events u (bit_or (slice_index s.masks u) m) s)
  effect_even s c (Service.ClearEvent m) inside calls pairs free = cleared_even c m s
  effect_even s c (Service.GetEvent o) inside calls pairs free = stays s.made s.jobs
  effect_even s c (Service.WaitEvent m) inside calls pairs free = awaited_even c m s
  effect_even s c (Service.SetRelAlarm None x y) inside calls pairs free = stays s.made s.jobs
  effect_even s c (Service.SetRelAlarm (Some a) x y) inside calls pairs free = stays s.made s.jobs
  effect_even s c (Service.SetAbsAlarm None x y) inside calls pairs free = stays s.made s.jobs
  effect_even s c (Service.SetAbsAlarm (Some a) x y) inside calls pairs free = stays s.made s.jobs
  effect_even s c (Service.CancelAlarm None) inside calls pairs free = stays s.made s.jobs
  effect_even s c (Service.CancelAlarm (Some a)) inside calls pairs free = stays s.made s.jobs
  effect_even s c (Service.GetAlarm o) inside calls pairs free = stays s.made s.jobs
  effect_even s c (Service.GetAlarmBase o) inside calls pairs free = stays s.made s.jobs

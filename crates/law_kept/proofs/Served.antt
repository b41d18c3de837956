-- A service of the definitions is one over what the code keeps.
use Rattle.std.proofs.Common.{◌≡◌, ℕ, ◌<◌, Bool, true, false, cond, not, ◌||◌, List, [], ◌∷◌, length, refl, sym, ◌∙◌, ap, subst, arith}
use Rattle.std.specs.Prelude.{Option, Some, None, ◌==◌, is_some, slice_index, bit_or}
use Rattle.std.specs.Option.{option_map}
use Rattle.std.specs.List.{find, list_any, AllByRecursion}
use Rattle.osek_base.specs.declared.ids.ResId.{ResId}
use Rattle.osek_base.specs.declared.instr.Service.{Service}
use Rattle.osek_base.specs.Types.{ServiceCall}
use Rattle.osek_base.specs.declared.status.Status.{Status}
use Rattle.osek_base.specs.System.{System, is_extended}
use Rattle.osek_base.specs.Instruction.{Context}
use Rattle.osek_base.specs.State.{Job, JobId, State, Active, same_id, jobs_of, job_of, with_job, waits, interrupts_off}
use Rattle.osek_base.specs.Activation.{activated, released}
use Rattle.osek_base.specs.Service.{Caller, JobCalls, RoutineCalls, NobodyCalls, with_caller, caller_ended, is_outranked, given_up, gets, releases, waiting_for, meets, is_met, released_by, with_events, event_set, events_cleared, event_awaited, effect, with_objects_of, refusals, first_refusal, reply_to, service, unasked_service}
use Rattle.osek_base.specs.Tick.{job_moved, executor, caller_of, job_caller}
use Rattle.law_runs.proofs.Lists.{clash, all_weaker, all_any, all_kept, all_filter, found}
use Rattle.law_runs.proofs.Foremost.{same_ids, equal}
use Rattle.law_runs.proofs.Known.{IsCaller, IsRunningCaller, met_waits, executor_calls}
use Rattle.law_runs.proofs.Single.{IsSoundJob, IsSingle, HasRunner}
use Rattle.law_runs.proofs.SingleMoves.{alone}
use Rattle.law_runs.proofs.Ranked.{IsStill, HasReady}
use Rattle.law_kept.specs.Kept.{slot_of, runs, task_in, is_gone, kept}
use Rattle.law_kept.specs.Moves.{activated_in, released_in, slot_changed}
use Rattle.law_kept.specs.KeptService.{ByTask, ByNobody, kept_caller, is_outranked_in, with_caller_in, caller_ended_in, slot_given_up, slot_gets, slot_releases, slot_waiting, with_mask, event_set_in, events_cleared_in, event_awaited_in, effect_in, reply_in, service_in, unasked_in, kept_reply, caller_by, caller_in, slot_moved, moved_in}
use Rattle.law_kept.proofs.Parts.{IsOldest, oldest, found_any}
use Rattle.law_kept.proofs.JobMoves.{IsGiven, changed_kept, activated_kept}
use Rattle.law_kept.proofs.Releases.{released_kept}
use Rattle.law_kept.proofs.Settled.{IsSettled, AreKnown, Stands, given_of, activates, changes, ends}
use Rattle.law_kept.proofs.Tests.{refusals_kept, results_kept, outranked_is}

module _ (S : System) (s : State) (settled : IsSettled S s) (known : AllByRecursion (λ j. j.id.task < length S.tasks) s.jobs) where
  stands : (j : Job) → IsRunningCaller s j → Stands s j.id
  stands j calls = (j, calls.runs, calls.found)

  ended_is : (c : Caller) → IsCaller s c → kept S (caller_ended c s) ≡ caller_ended_in (kept_caller c) (kept S s)
  ended_is (JobCalls j) calls = ends S s j.id settled (stands j calls)
  ended_is (RoutineCalls a) calls = refl
  ended_is NobodyCalls calls = refl

  still_given : (c : Caller) → IsGiven (caller_ended c s).made (caller_ended c s).running
  still_given (JobCalls j) = given_of s.made s.jobs s.running settled.single.runs
  still_given (RoutineCalls a) = given_of s.made s.jobs s.running settled.single.runs
  still_given NobodyCalls = given_of s.made s.jobs s.running settled.single.runs

  chained_is : (c : Caller) (t : ℕ) → IsCaller s c
      → kept S (activated S t (caller_ended c s)) ≡ activated_in S t (caller_ended_in (kept_caller c) (kept S s))
  chained_is c t calls =
      activated_kept S t (caller_ended c s) (still_given c) ∙ ap (activated_in S t) (ended_is c calls)

  given_is : (c : Caller) → IsCaller s c
      → kept S (with_caller c given_up s) ≡ with_caller_in (kept_caller c) slot_given_up (kept S s)
  given_is (JobCalls j) calls =
      changes S s j.id given_up slot_given_up settled (stands j calls) (λ i. refl) (λ k i e. refl)
  given_is (RoutineCalls a) calls = refl
  given_is NobodyCalls calls = refl

  gets_is : (c : Caller) (r : ResId) → IsCaller s c
      → kept S (with_caller c (gets r) s) ≡ with_caller_in (kept_caller c) (slot_gets r) (kept S s)
  gets_is (JobCalls j) r calls =
      changes S s j.id (gets r) (slot_gets r) settled (stands j calls) (λ i. refl) (λ k i e. refl)
  gets_is (RoutineCalls a) r calls = refl
  gets_is NobodyCalls r calls = refl

  releases_is : (c : Caller) → IsCaller s c
      → kept S (with_caller c releases s) ≡ with_caller_in (kept_caller c) slot_releases (kept S s)
  releases_is (JobCalls j) calls =
      changes S s j.id releases slot_releases settled (stands j calls) (λ i. refl) (λ k i e. refl)
  releases_is (RoutineCalls a) calls = refl
  releases_is NobodyCalls calls = refl

  schedule_is : (c : Caller) → IsCaller s c → kept S (cond (is_outranked S c s.jobs) (with_caller c given_up s) s)
      ≡ cond (is_outranked_in S (kept S s) (kept_caller c)) (with_caller_in (kept_caller c) slot_given_up (kept S s)) (kept S s)
  schedule_is c calls =
      go (is_outranked S c s.jobs)
      ∙ ap (λ b. cond b (with_caller_in (kept_caller c) slot_given_up (kept S s)) (kept S s))
      (outranked_is S s settled known c calls)
    where
      go : (b : Bool)
          → kept S (cond b (with_caller c given_up s) s)
          ≡ cond b (with_caller_in (kept_caller c) slot_given_up (kept S s)) (kept S s)
      go true = given_is c calls
      go false = refl

  awaited_is : (c : Caller) (m : ℕ) → IsCaller s c
      → kept S (event_awaited c m s) ≡ event_awaited_in (kept_caller c) m (kept S s)
  awaited_is (JobCalls j) m calls = go (meets m (slice_index s.masks j.id.task))
    where
      go : (b : Bool)
          → kept S (cond b s (record s { jobs = with_job j.id (waiting_for m) s.jobs }))
          ≡ cond b (kept S s) (with_caller_in (ByTask j.id.task) (slot_waiting m) (kept S s))
      go true = refl
      go false =
          changes S s j.id (waiting_for m) (slot_waiting m) settled (stands j calls) (λ i. refl) (λ k i e. refl)
  awaited_is (RoutineCalls a) m calls = refl
  awaited_is NobodyCalls m calls = refl

  -- the first job of a task is released, if it waits for a set event
  set_is : (t m : ℕ) → HasReady s.running s.jobs → kept S (event_set t m s) ≡ event_set_in S t m (kept S s)
  set_is t m ready = go (jobs_of t s.jobs) refl
    where
      next : State
      next = with_events t (bit_or (slice_index s.masks t) m) s

      go : (js : List Job) → jobs_of t s.jobs ≡ js
          → kept S (released_by (bit_or (slice_index s.masks t) m) js (with_events t (bit_or (slice_index s.masks t) m) s))
          ≡ cond (is_met (bit_or (slice_index s.masks t) m) (slot_of js).waits_for) (released_in S t (with_mask t (bit_or (slice_index s.masks t) m) (kept S s))) (with_mask t (bit_or (slice_index s.masks t) m) (kept S s))
      go [] e = refl
      go (j ∷ js) e = pick (is_met (bit_or (slice_index s.masks t) m) j.waits_for) refl
        where
          member : (P : Job → Type 0) → AllByRecursion P s.jobs → P j
          member P all = (subst (AllByRecursion P) e (all_kept P (λ k. k.id.task == t) s.jobs all)).0

          pick : (b : Bool) → is_met (bit_or (slice_index s.masks t) m) j.waits_for ≡ b
              → kept S (cond b (released j.id (with_events t (bit_or (slice_index s.masks t) m) s)) (with_events t (bit_or (slice_index s.masks t) m) s))
              ≡ cond b (released_in S t (with_mask t (bit_or (slice_index s.masks t) m) (kept S s))) (with_mask t (bit_or (slice_index s.masks t) m) (kept S s))
          pick false met = refl
          pick true met =
              released_kept S next j.id o settled.single.pairs extended
              (all_weaker (λ x. x.id.task ≡ j.id.task → x ≡ j) _ s.jobs (λ x h same. ap waits (h (ap (λ (n : JobId). n.task) (same_ids x.id j.id same))) ∙ waiting) one)
              (member IsStill settled.still waiting) (apart s.running refl)
              ∙ ap (λ u. released_in S u (with_mask t (bit_or (slice_index s.masks t) m) (kept S s))) task
            where
              waiting : waits j ≡ true
              waiting = met_waits (bit_or (slice_index s.masks t) m) j.waits_for met

              extended : is_extended S j.id.task ≡ true
              extended = (member (IsSoundJob S s.made) settled.single.each).extended waiting

              one : AllByRecursion (λ x. x.id.task ≡ j.id.task → x ≡ j) s.jobs
              one = alone S j s.jobs member extended settled.single.pairs

              task : j.id.task ≡ t
              task = equal j.id.task t
                  (subst (AllByRecursion (λ k. Unit {0} × ((k.id.task == t) ≡ true))) e (all_filter (λ k. Unit {0}) (λ k. k.id.task == t) s.jobs (all_any (λ k. Unit {0}) s.jobs (λ k. tt)))).0.1

              o : IsOldest j.id s.jobs
              o = record { job = j; others = js; is = ap (λ u. jobs_of u s.jobs) task ∙ e; id = refl }

              apart : (r : Option JobId) → s.running ≡ r → runs s.running j ≡ false
              apart None f = ap (λ n. runs n j) f
              apart (Some n) f = ap (λ k. runs k j) f ∙ same (same_id j.id n) refl
                where
                  same : (b : Bool) → same_id j.id n ≡ b → b ≡ false
                  same false k = refl
                  same true k =
                      clash
                      (sym waiting ∙ member (λ k. s.running ≡ Some k.id → waits k ≡ false) ready (f ∙ ap Some (sym (same_ids j.id n k))))

  -- ---- all services

  pub effect_kept : (c : Caller) → IsCaller s c → HasReady s.running s.jobs → (call : ServiceCall)
      → kept S (with_objects_of s (effect S c s call)) ≡ effect_in S (kept_caller c) (kept S s) call
  unfolding activated released
  effect_kept c calls ready (Service.ActivateTask None) = refl
  effect_kept c calls ready (Service.ActivateTask (Some t)) = activates S s t settled
  effect_kept c calls ready Service.TerminateTask = terminated c calls
    where
      terminated : (d : Caller) → IsCaller s d
          → kept S (with_objects_of s (caller_ended d s)) ≡ caller_ended_in (kept_caller d) (kept S s)
      terminated (JobCalls j) h = ended_is (JobCalls j) h
      terminated (RoutineCalls a) h = refl
      terminated NobodyCalls h = refl
  effect_kept c calls ready (Service.ChainTask None) = refl
  effect_kept c calls ready (Service.ChainTask (Some t)) = chained c calls
    where
      chained : (d : Caller) → IsCaller s d
          → kept S (with_objects_of s (activated S t (caller_ended d s)))
          ≡ activated_in S t (caller_ended_in (kept_caller d) (kept S s))
      chained (JobCalls j) h = chained_is (JobCalls j) t h
      chained (RoutineCalls a) h = chained_is (RoutineCalls a) t h
      chained NobodyCalls h = chained_is NobodyCalls t h
  effect_kept c calls ready Service.Schedule = same_objects (is_outranked S c s.jobs) c ∙ schedule_is c calls
    where
      same_objects : (b : Bool) (d : Caller)
          → kept S (with_objects_of s (cond b (with_caller d given_up s) s))
          ≡ kept S (cond b (with_caller d given_up s) s)
      same_objects false d = refl
      same_objects true (JobCalls j) = refl
      same_objects true (RoutineCalls a) = refl
      same_objects true NobodyCalls = refl
  effect_kept c calls ready Service.GetTaskId = refl
  effect_kept c calls ready (Service.GetTaskState o) = refl
  effect_kept c calls ready (Service.GetResource None) = refl
  effect_kept c calls ready (Service.GetResource (Some r)) = got c calls
    where
      got : (d : Caller) → IsCaller s d
          → kept S (with_objects_of s (with_caller d (gets r) s))
          ≡ with_caller_in (kept_caller d) (slot_gets r) (kept S s)
      got (JobCalls j) h = gets_is (JobCalls j) r h
      got (RoutineCalls a) h = refl
      got NobodyCalls h = refl
  effect_kept c calls ready (Service.ReleaseResource None) = refl
  effect_kept c calls ready (Service.ReleaseResource (Some r)) = let_go c calls
    where
      let_go : (d : Caller) → IsCaller s d
          → kept S (with_objects_of s (with_caller d releases s))
          ≡ with_caller_in (kept_caller d) slot_releases (kept S s)
      let_go (JobCalls j) h = releases_is (JobCalls j) h
      let_go (RoutineCalls a) h = refl
      let_go NobodyCalls h = refl
  effect_kept c calls ready (Service.LoadShared o n) = refl
  effect_kept c calls ready (Service.StoreShared None n v) = refl
  effect_kept c calls ready (Service.StoreShared (Some r) n v) = refl
  effect_kept c calls ready (Service.SetEvent None m) = refl
  effect_kept c calls ready (Service.SetEvent (Some t) m) = same_objects (jobs_of t s.jobs) ∙ set_is t m ready
    where
      next : State
      next = with_events t (bit_or (slice_index s.masks t) m) s

      same_objects : (js : List Job)
          → kept S (with_objects_of s (released_by (bit_or (slice_index s.masks t) m) js (with_events t (bit_or (slice_index s.masks t) m) s)))
          ≡ kept S (released_by (bit_or (slice_index s.masks t) m) js (with_events t (bit_or (slice_index s.masks t) m) s))
      same_objects [] = refl
      same_objects (j ∷ js) = pick (is_met (bit_or (slice_index s.masks t) m) j.waits_for)
        where
          pick : (b : Bool)
              → kept S (with_objects_of s (cond b (released j.id (with_events t (bit_or (slice_index s.masks t) m) s)) (with_events t (bit_or (slice_index s.masks t) m) s)))
              ≡ kept S (cond b (released j.id (with_events t (bit_or (slice_index s.masks t) m) s)) (with_events t (bit_or (slice_index s.masks t) m) s))
          pick true = refl
          pick false = refl
  effect_kept c calls ready (Service.ClearEvent m) = cleared c
    where
      cleared : (d : Caller)
          → kept S (with_objects_of s (events_cleared d m s)) ≡ events_cleared_in (kept_caller d) m (kept S s)
      cleared (JobCalls j) = refl
      cleared (RoutineCalls a) = refl
      cleared NobodyCalls = refl
  effect_kept c calls ready (Service.GetEvent o) = refl
  effect_kept c calls ready (Service.WaitEvent m) = awaited c calls
    where
      awaited : (d : Caller) → IsCaller s d
          → kept S (with_objects_of s (event_awaited d m s)) ≡ event_awaited_in (kept_caller d) m (kept S s)
      awaited (JobCalls j) h = same_objects (meets m (slice_index s.masks j.id.task)) ∙ awaited_is (JobCalls j) m h
        where
          same_objects : (b : Bool)
              → kept S (with_objects_of s (cond b s (record s { jobs = with_job j.id (waiting_for m) s.jobs })))
              ≡ kept S (cond b s (record s { jobs = with_job j.id (waiting_for m) s.jobs }))
          same_objects true = refl
          same_objects false = refl
      awaited (RoutineCalls a) h = refl
      awaited NobodyCalls h = refl
  effect_kept c calls ready (Service.SetRelAlarm None x y) = refl
  effect_kept c calls ready (Service.SetRelAlarm (Some a) x y) = refl
  effect_kept c calls ready (Service.SetAbsAlarm None x y) = refl
  effect_kept c calls ready (Service.SetAbsAlarm (Some a) x y) = refl
  effect_kept c calls ready (Service.CancelAlarm None) = refl
  effect_kept c calls ready (Service.CancelAlarm (Some a)) = refl
  effect_kept c calls ready (Service.GetAlarm o) = refl
  effect_kept c calls ready (Service.GetAlarmBase o) = refl

  reply_kept : (c : Caller) → IsCaller s c → HasReady s.running s.jobs → (call : ServiceCall) (refusal : Option Status)
      → kept_reply S (reply_to S c s call refusal) ≡ reply_in S (kept_caller c) (kept S s) call refusal
  reply_kept c calls ready call None = λ i. record { status = Status.Ok; results = results_kept S s settled known call i; state = effect_kept c calls ready call i }
  reply_kept c calls ready call (Some refusal) = refl

  pub service_kept : (c : Caller) → IsCaller s c → HasReady s.running s.jobs → (call : ServiceCall)
      → kept_reply S (service S c s call) ≡ service_in S (kept_caller c) (kept S s) call
  unfolding service service_in
  service_kept c calls ready call =
      reply_kept c calls ready call (first_refusal ((interrupts_off s, Status.SysDisabled) ∷ refusals S c s call))
      ∙ ap
      (λ rs. reply_in S (kept_caller c) (kept S s) call (first_refusal ((interrupts_off s, Status.SysDisabled) ∷ rs))) (refusals_kept S s settled known c calls call)

  pub unasked_kept : (c : Caller) → IsCaller s c → HasReady s.running s.jobs → (call : ServiceCall)
      → kept_reply S (unasked_service S c s call) ≡ unasked_in S (kept_caller c) (kept S s) call
  unfolding unasked_service unasked_in
  unasked_kept c calls ready call =
      reply_kept c calls ready call (first_refusal (refusals S c s call))
      ∙ ap (λ rs. reply_in S (kept_caller c) (kept S s) call (first_refusal rs))
      (refusals_kept S s settled known c calls call)

-- ---- who calls

find_none : {X : Type 0} (p : X → Bool) (xs : List X) → find p xs ≡ None → list_any p xs ≡ false
find_none p [] h = refl
find_none p (x ∷ xs) h = go (p x) refl h (find_none p xs)
  where
    go : (b : Bool) → p x ≡ b → cond b (Some x) (find p xs) ≡ None → (find p xs ≡ None → list_any p xs ≡ false)
        → (b || list_any p xs) ≡ false
    go true e k ih = absurd (grind arith)
    go false e k ih = ih k

pub executor_kept : (S : System) (s : State) → kept_caller (executor s) ≡ caller_in (kept S s)
executor_kept S s = go s.active s.running
  where
    job : (n : JobId) (o : Option Job) → job_of n s.jobs ≡ o
        → kept_caller (job_caller o) ≡ caller_by false (Some n.task) (is_gone (Some n) s.jobs)
    job n None e = ap (λ b. caller_by false (Some n.task) (not b)) (sym (find_none (λ j. same_id j.id n) s.jobs e))
    job n (Some j) e =
        let at : same_id j.id n ≡ true =
        (found (λ k. Unit {0}) (λ k. same_id k.id n) s.jobs j (all_any (λ k. Unit {0}) s.jobs (λ k. tt)) e).1 in
        ap (λ (m : JobId). ByTask m.task) (same_ids j.id n at)
        ∙ ap (λ b. caller_by false (Some n.task) (not b))
        (sym (found_any (λ k. same_id k.id n) (λ k. same_id k.id n) s.jobs j e at))

    go : (a : Option Active) (r : Option JobId)
        → kept_caller (caller_of a r s.jobs) ≡ caller_by (is_some a) (option_map task_in r) (is_gone r s.jobs)
    go (Some a) r = refl
    go None None = refl
    go None (Some n) = job n (job_of n s.jobs) refl

-- ---- the running job goes on

pub moved_kept : (S : System) (s : State) (n : JobId) (x : Context) → IsSingle S s → s.running ≡ Some n
    → kept S (record s { jobs = with_job n (job_moved x) s.jobs }) ≡ moved_in n.task x (kept S s)
moved_kept S s n x single e = go (list_any (λ j. same_id j.id n) s.jobs) refl
  where
    gone_is : (b : Bool) → list_any (λ j. same_id j.id n) s.jobs ≡ b → is_gone s.running s.jobs ≡ not b
    gone_is b h = ap (λ r. is_gone r s.jobs) e ∙ ap not h

    none : (js : List Job) → list_any (λ j. same_id j.id n) js ≡ false → with_job n (job_moved x) js ≡ js
    none [] h = refl
    none (j ∷ js) h = one (same_id j.id n) refl h (none js)
      where
        one : (b : Bool) → same_id j.id n ≡ b → (b || list_any (λ k. same_id k.id n) js) ≡ false
            → (list_any (λ k. same_id k.id n) js ≡ false → with_job n (job_moved x) js ≡ js)
            → cond b (job_moved x j) j ∷ with_job n (job_moved x) js ≡ j ∷ js
        one true k h ih = clash h
        one false k h ih = ap (λ ks. j ∷ ks) (ih h)

    go : (b : Bool) → list_any (λ j. same_id j.id n) s.jobs ≡ b
        → kept S (record s { jobs = with_job n (job_moved x) s.jobs }) ≡ moved_in n.task x (kept S s)
    go false h =
        ap (λ js. kept S (record s { jobs = js })) (none s.jobs h)
        ∙ ap (λ b. cond b (kept S s) (slot_changed n.task (slot_moved x) (kept S s))) (sym (gone_is false h))
    go true h =
        changed_kept S s n (job_moved x) (slot_moved x) (λ j. refl) (λ k j i. refl) e
        (oldest S n s.jobs single.pairs (subst (HasRunner s.made s.jobs) e single.runs).begun h)
        ∙ ap (λ b. cond b (kept S s) (slot_changed n.task (slot_moved x) (kept S s))) (sym (gone_is true h))

-- ---- a service of whoever executes, and one of an alarm

pub serves : (S : System) (s : State) → IsSettled S s → AreKnown S s → HasReady s.running s.jobs → (call : ServiceCall)
    → kept_reply S (service S (executor s) s call) ≡ service_in S (caller_in (kept S s)) (kept S s) call
serves S s settled known ready call =
    service_kept S s settled known (executor s) (executor_calls s) ready call
    ∙ ap (λ d. service_in S d (kept S s) call) (executor_kept S s)

pub acts : (S : System) (s : State) → IsSettled S s → AreKnown S s → HasReady s.running s.jobs → (call : ServiceCall)
    → kept_reply S (unasked_service S NobodyCalls s call) ≡ unasked_in S ByNobody (kept S s) call
acts S s settled known ready call = unasked_kept S s settled known NobodyCalls tt ready call

-- A service of who executes: which jobs stand behind it.
use Rattle.std.proofs.Common.{◌≡◌, ℕ, ◌⊎◌, inl, inr, Bool, true, false, cond, not, ◌&&◌, ◌||◌, List, [], ◌∷◌, ◌++◌, map, refl, sym, ◌∙◌, ap, subst, append_assoc, arith}
use Rattle.std.specs.Prelude.{Option, Some, None, ◌==◌, bit_or, slice_index}
use Rattle.std.specs.List.{filter, AllByRecursion}
use Rattle.osek_base.specs.declared.instr.Instr.{Instr}
use Rattle.osek_base.specs.declared.instr.Service.{Service}
use Rattle.osek_base.specs.declared.status.Status.{Status}
use Rattle.osek_base.specs.declared.trace_event.Outcome.{Outcome}
use Rattle.osek_base.specs.declared.trace_event.Results.{Results}
use Rattle.osek_base.specs.Activation.{activated, ended, new_job}
use Rattle.osek_base.specs.Reschedule.{id_of}
use Rattle.osek_base.specs.Service.{Caller, JobCalls, NobodyCalls, RoutineCalls, caller_ended, effect, event_awaited, events_cleared, first_refusal, gets, given_up, is_outranked, meets, refusals, releases, reply_to, service, waiting_for, with_caller}
use Rattle.osek_base.specs.State.{Job, JobId, State, interrupts_off, jobs_but, may_dispatch, same_id, waits, with_job}
use Rattle.osek_base.specs.System.{System, is_extended}
use Rattle.osek_base.specs.Types.{ServiceCall}
use Rattle.law_runs.proofs.Foremost.{equal, same_self}
use Rattle.law_runs.proofs.Known.{IsCaller, IsRunningCaller, all_passed, passed}
use Rattle.law_runs.proofs.Lists.{clash}
use Rattle.law_runs.proofs.Ranked.{HasReady}
use Rattle.law_runs.proofs.Single.{IsSingle}
use Rattle.law_kept.proofs.JobMoves.{keeps_id, one_changed}
use Rattle.law_kept.proofs.Parts.{found_any}
use Rattle.seen_ticks.specs.Observed.{is_accepted, is_end}
use Rattle.law_jobs.specs.Standing.{behind, standing, stands}
use Rattle.law_jobs.proofs.Growing.{grows_activated, grows_set, new_apart}
use Rattle.law_jobs.proofs.Lists.{Grows, absent, grows_same, is_among, is_there, one_waits, same_jobs, same_mapped, standing_append}
use Rattle.law_jobs.proofs.Moving.{Moves, ended_moves, grown_moves, runner_calm, waited_moves, waited_there, waited_waits}

-- ---- tests

pub unequal : (a b : ℕ) → (a == b) ≡ false → (b == a) ≡ false
unequal a b h = grind (arith, h)

pub equal_back : (a b : ℕ) → (a == b) ≡ true → (b == a) ≡ true
equal_back a b h = grind (arith, h)

-- whether a job of the task leaves those that stand: who calls is one, and it ends or waits then
abbrev pub left_by : ℕ → Caller → Bool → List Job → Bool
left_by k (JobCalls j) ends jobs = (ends && (j.id.task == k)) ||
    ((k == j.id.task) && one_waits k jobs)
left_by k (RoutineCalls a) ends jobs = false
left_by k NobodyCalls ends jobs = false

-- who is in the list stays in it
abbrev pub AllStay : List Job → List Job → Type 0
AllStay js ks = (n : JobId) → is_there n js ≡ true → is_there n ks ≡ true

module _ (S : System) (e : State) (single : IsSingle S e) (ready : HasReady e.running e.jobs) where
  -- what a call leaves, by which the job that calls ends, or not
  pub record HasMoved (c : Caller) (ends : Bool) (x : State) : Type 0 where
    pub moves : (k : ℕ) → Moves k (left_by k c ends x.jobs) e.jobs x.jobs
    pub stays : AllStay e.jobs x.jobs ⊎ (e.active ≡ None)

  pub runs_there : (j : Job) → IsRunningCaller e j → is_there j.id e.jobs ≡ true
  runs_there j calls =
      found_any (λ k. same_id k.id j.id) (λ k. same_id k.id j.id) e.jobs j calls.found
      (same_self j.id)

  pub caller_calm : (j : Job) → IsRunningCaller e j → one_waits j.id.task e.jobs ≡ false
  caller_calm j calls = runner_calm S e single ready j.id calls.runs (runs_there j calls)

  -- ---- others begin to stand

  pub grown : (c : Caller) → IsCaller e c → (x : State) → ((k : ℕ) → Grows k e.jobs x.jobs)
      → HasMoved c false x
  grown (JobCalls j) calls x grows = record {
    moves = λ k. go k (k == j.id.task) refl;
    stays = inl (grows 0).stays;
  }
    where
      go : (k : ℕ) (b : Bool) → (k == j.id.task) ≡ b
          → Moves k (b && one_waits k x.jobs) e.jobs x.jobs
      go k false other = grown_moves k e.jobs x.jobs (grows k)
      go k true own =
          subst (λ b. Moves k b e.jobs x.jobs)
          (sym ((grows k).calm
          (ap (λ t. one_waits t e.jobs) (equal k j.id.task own) ∙ caller_calm j calls)))
          (grown_moves k e.jobs x.jobs (grows k))
  grown (RoutineCalls a) calls x grows =
      record { moves = λ k. grown_moves k e.jobs x.jobs (grows k); stays = inl (grows 0).stays }
  grown NobodyCalls calls x grows =
      record { moves = λ k. grown_moves k e.jobs x.jobs (grows k); stays = inl (grows 0).stays }

  pub same_moved : (c : Caller) → IsCaller e c → (x : State) → x.jobs ≡ e.jobs → HasMoved c false x
  same_moved c calls x same =
      grown c calls x (λ k. grows_same k e.jobs x.jobs (same_jobs k e.jobs x.jobs same))

  changed_moved : (c : Caller) → IsCaller e c → (f : Job → Job) → ((j : Job) → (f j).id ≡ j.id)
      → ((j : Job) → waits (f j) ≡ waits j) → HasMoved c false (with_caller c f e)
  changed_moved (JobCalls j) calls f ids calm =
      grown (JobCalls j) calls (with_caller (JobCalls j) f e)
      (λ k. grows_same k e.jobs (with_job j.id f e.jobs)
      (same_mapped k (one_changed j.id f ids) (keeps_id j.id f ids)
      (λ l. pick l (same_id l.id j.id)) e.jobs))
    where
      pick : (l : Job) (b : Bool) → waits (cond b (f l) l) ≡ waits l
      pick l true = calm l
      pick l false = refl
  changed_moved (RoutineCalls a) calls f ids calm = same_moved (RoutineCalls a) calls e refl
  changed_moved NobodyCalls calls f ids calm = same_moved NobodyCalls calls e refl

  either_moved : (c : Caller) (b : Bool) (x y : State) → HasMoved c false x → HasMoved c false y
      → HasMoved c false (cond b x y)
  either_moved c true x y f g = f
  either_moved c false x y f g = g

  -- ---- who calls ends

  flag_ends : (a b w : Bool) → (a ≡ false → b ≡ false) → (a || (b && w)) ≡ a
  flag_ends true b w h = refl
  flag_ends false b w h = ap (λ c. c && w) (h refl)

  ended_moved : (j : Job) → IsRunningCaller e j → HasMoved (JobCalls j) true (ended j.id e)
  ended_moved j calls = record {
    moves = λ k.
        subst (λ b. Moves k b e.jobs (jobs_but j.id e.jobs))
        (sym (flag_ends (j.id.task == k) (k == j.id.task) (one_waits k (jobs_but j.id e.jobs))
        (unequal j.id.task k)))
        (ended_moves S e single ready j.id calls.runs (runs_there j calls) k);
    stays = inr calls.idle;
  }

  -- and another job is made
  made_too : (t : ℕ) (js : List Job) (k : ℕ) (b : Bool) → Moves k b e.jobs js
      → Moves k b e.jobs (js ++ new_job (record { task = t; serial = slice_index e.made t }) ∷ [])
  made_too t js k b moves = record {
    fresh = moves.fresh ++ standing k (new_job id ∷ []);
    is =
        standing_append k js (new_job id ∷ [])
        ∙ ap (λ ids. ids ++ standing k (new_job id ∷ [])) moves.is
        ∙ append_assoc (cond b (behind (standing k e.jobs)) (standing k e.jobs)) moves.fresh
        (standing k (new_job id ∷ []));
    apart = both moves.fresh moves.apart (t == k);
  }
    where
      id : JobId
      id = record { task = t; serial = slice_index e.made t }

      both : (fresh : List JobId) → AllByRecursion (λ n. is_among (standing k e.jobs) n ≡ false)
          fresh
          → (c : Bool) → AllByRecursion (λ n. is_among (standing k e.jobs) n ≡ false)
          (fresh ++ map id_of (filter stands (cond c (new_job id ∷ []) [])))
      both [] all true = (absent k id e.jobs (new_apart S t e single), tt)
      both [] all false = tt
      both (n ∷ ns) all c = (all.0, both ns all.1 c)

  terminated : (c : Caller) → IsCaller e c → HasMoved c true (caller_ended c e)
  terminated (JobCalls j) calls = ended_moved j calls
  terminated (RoutineCalls a) calls = unended (same_moved (RoutineCalls a) calls e refl)
    where
      unended : HasMoved (RoutineCalls a) false e → HasMoved (RoutineCalls a) true e
      unended h = record { moves = h.moves; stays = h.stays }
  terminated NobodyCalls calls = unended (same_moved NobodyCalls calls e refl)
    where
      unended : HasMoved NobodyCalls false e → HasMoved NobodyCalls true e
      unended h = record { moves = h.moves; stays = h.stays }

  chained : (c : Caller) (t : ℕ) → IsCaller e c
      → HasMoved c true (activated S t (caller_ended c e))
  unfolding activated
  chained (JobCalls j) t calls = record {
    moves = λ k.
        subst (λ b. Moves k b e.jobs (jobs_but j.id e.jobs ++ new_job
        (record { task = t; serial = slice_index e.made t }) ∷ []))
        (sym (flag_ends (j.id.task == k) (k == j.id.task)
        (one_waits k (jobs_but j.id e.jobs ++ new_job
        (record { task = t; serial = slice_index e.made t }) ∷ []))
        (unequal j.id.task k)))
        (made_too t (jobs_but j.id e.jobs) k (j.id.task == k)
        (ended_moves S e single ready j.id calls.runs (runs_there j calls) k));
    stays = inr calls.idle;
  }
  chained (RoutineCalls a) t calls =
      record {
        moves = λ k. grown_moves k e.jobs (activated S t e).jobs (grows_activated S k t e single);
        stays = inl (grows_activated S 0 t e single).stays;
      }
  chained NobodyCalls t calls =
      record {
        moves = λ k. grown_moves k e.jobs (activated S t e).jobs (grows_activated S k t e single);
        stays = inl (grows_activated S 0 t e single).stays;
      }

  -- ---- who calls begins to wait

  awaited_moves : (j : Job) → IsRunningCaller e j → is_extended S j.id.task ≡ true
      → (m : ℕ) (b : Bool)
      → HasMoved (JobCalls j) false (cond b e (record e
      { jobs = with_job j.id (waiting_for m) e.jobs }))
  awaited_moves j calls extended m true = same_moved (JobCalls j) calls e refl
  awaited_moves j calls extended m false = record {
    moves = λ k. go k (j.id.task == k) refl (waited_moves S e single ready j.id calls.runs
        (runs_there j calls) extended m k);
    stays = inl (λ n h. waited_there S e single ready j.id calls.runs (runs_there j calls)
        extended m n ∙ h);
  }
    where
      go : (k : ℕ) (b : Bool) → (j.id.task == k) ≡ b
          → Moves k (j.id.task == k) e.jobs (with_job j.id (waiting_for m) e.jobs)
          → Moves k ((k == j.id.task) && one_waits k (with_job j.id (waiting_for m) e.jobs)) e.jobs
          (with_job j.id (waiting_for m) e.jobs)
      go k true own moves =
          subst (λ b. Moves k b e.jobs (with_job j.id (waiting_for m) e.jobs))
          (own ∙ sym (rw (
            equal_back j.id.task k own,
            waited_waits S e single ready j.id calls.runs (runs_there j calls) extended m k own,
          ) refl)) moves
      go k false other moves =
          subst (λ b. Moves k b e.jobs (with_job j.id (waiting_for m) e.jobs))
          (other ∙ sym (ap (λ b. b && one_waits k (with_job j.id (waiting_for m) e.jobs))
          (unequal j.id.task k other))) moves

  awaited : (c : Caller) (m : ℕ) → IsCaller e c
      → first_refusal (refusals S c e (Service.WaitEvent m)) ≡ None
      → HasMoved c false (event_awaited c m e)
  awaited (JobCalls j) m calls free =
      awaited_moves j calls
      (extends (is_extended S j.id.task) (all_passed
      (refusals S (JobCalls j) e (Service.WaitEvent m)) free).1.0)
      m (meets m (slice_index e.masks j.id.task))
    where
      extends : (b : Bool) → not b ≡ false → b ≡ true
      extends true h = refl
      extends false h = clash h
  awaited (RoutineCalls a) m calls free = same_moved (RoutineCalls a) calls e refl
  awaited NobodyCalls m calls free = same_moved NobodyCalls calls e refl

  cleared : (c : Caller) (m : ℕ) → IsCaller e c → HasMoved c false (events_cleared c m e)
  cleared (JobCalls j) m calls = same_moved (JobCalls j) calls (events_cleared (JobCalls j) m e)
      refl
  cleared (RoutineCalls a) m calls = same_moved (RoutineCalls a) calls e refl
  cleared NobodyCalls m calls = same_moved NobodyCalls calls e refl

  -- ---- services

  effect_moved : (c : Caller) → IsCaller e c → (call : ServiceCall)
      → first_refusal (refusals S c e call) ≡ None
      → HasMoved c (is_end (Instr.Service call)) (effect S c e call)
  effect_moved c calls (Service.ActivateTask None) free = same_moved c calls e refl
  effect_moved c calls (Service.ActivateTask (Some t)) free =
      grown c calls (activated S t e) (λ k. grows_activated S k t e single)
  effect_moved c calls Service.TerminateTask free = terminated c calls
  effect_moved c calls (Service.ChainTask None) free =
      clash (all_passed (refusals S c e (Service.ChainTask None)) free).1.0
  effect_moved c calls (Service.ChainTask (Some t)) free = chained c t calls
  effect_moved c calls Service.Schedule free =
      either_moved c (is_outranked S c e.jobs) (with_caller c given_up e) e
      (changed_moved c calls given_up (λ j. refl) (λ j. refl)) (same_moved c calls e refl)
  effect_moved c calls Service.GetTaskId free = same_moved c calls e refl
  effect_moved c calls (Service.GetTaskState o) free = same_moved c calls e refl
  effect_moved c calls (Service.GetResource None) free = same_moved c calls e refl
  effect_moved c calls (Service.GetResource (Some r)) free =
      changed_moved c calls (gets r) (λ j. refl) (λ j. refl)
  effect_moved c calls (Service.ReleaseResource None) free = same_moved c calls e refl
  effect_moved c calls (Service.ReleaseResource (Some r)) free =
      changed_moved c calls releases (λ j. refl) (λ j. refl)
  effect_moved c calls (Service.LoadShared o i) free = same_moved c calls e refl
  effect_moved c calls (Service.StoreShared None i v) free = same_moved c calls e refl
  effect_moved c calls (Service.StoreShared (Some r) i v) free =
      same_moved c calls (effect S c e (Service.StoreShared (Some r) i v)) refl
  effect_moved c calls (Service.SetEvent None m) free = same_moved c calls e refl
  effect_moved c calls (Service.SetEvent (Some t) m) free =
      grown c calls (effect S c e (Service.SetEvent (Some t) m))
      (λ k. grows_set S k t (bit_or (slice_index e.masks t) m) e single)
  effect_moved c calls (Service.ClearEvent m) free = cleared c m calls
  effect_moved c calls (Service.GetEvent o) free = same_moved c calls e refl
  effect_moved c calls (Service.WaitEvent m) free = awaited c m calls free
  effect_moved c calls (Service.SetRelAlarm None x y) free = same_moved c calls e refl
  effect_moved c calls (Service.SetRelAlarm (Some a) x y) free =
      same_moved c calls (effect S c e (Service.SetRelAlarm (Some a) x y)) refl
  effect_moved c calls (Service.SetAbsAlarm None x y) free = same_moved c calls e refl
  effect_moved c calls (Service.SetAbsAlarm (Some a) x y) free =
      same_moved c calls (effect S c e (Service.SetAbsAlarm (Some a) x y)) refl
  effect_moved c calls (Service.CancelAlarm None) free = same_moved c calls e refl
  effect_moved c calls (Service.CancelAlarm (Some a)) free =
      same_moved c calls (effect S c e (Service.CancelAlarm (Some a))) refl
  effect_moved c calls (Service.GetAlarm o) free = same_moved c calls e refl
  effect_moved c calls (Service.GetAlarmBase o) free = same_moved c calls e refl

  -- ---- with the answer

  abbrev pub is_ok : Status → Bool
  is_ok status = is_accepted (Outcome.Answer status Results.Nothing)

  not_ok : (rs : List (Bool × Status)) → AllByRecursion (λ r. is_ok r.1 ≡ false) rs
      → (found : Status)
      → first_refusal rs ≡ Some found → is_ok found ≡ false
  not_ok [] all found h = absurd (grind (arith, h))
  not_ok ((b, status) ∷ rs) all found h = go b h (not_ok rs all.1 found)
    where
      go : (b : Bool) → cond b (Some status) (first_refusal rs) ≡ Some found
          → (first_refusal rs ≡ Some found → is_ok found ≡ false) → is_ok found ≡ false
      go true h rest = subst (λ (x : Status). is_ok x ≡ false)
          (let same : status ≡ found = grind (arith, h) in same) all.0
      go false h rest = rest h

  and_false : (b : Bool) → (b && false) ≡ false
  and_false true = refl
  and_false false = refl

  and_first : (a b : Bool) → a ≡ false → (a && b) ≡ false
  and_first a b h = ap (λ c. c && b) h

  refused : (c : Caller) (call : ServiceCall) (status : Status)
      → first_refusal ((interrupts_off e, Status.SysDisabled) ∷ refusals S c e call) ≡ Some status
      → (is_ok status && is_end (Instr.Service call)) ≡ false
  refused c Service.TerminateTask status h =
      and_first (is_ok status) true
      (not_ok ((interrupts_off e, Status.SysDisabled) ∷ refusals S c e Service.TerminateTask)
      (refl, (refl, (refl, tt))) status h)
  refused c (Service.ChainTask None) status h =
      and_first (is_ok status) true
      (not_ok ((interrupts_off e, Status.SysDisabled) ∷ refusals S c e (Service.ChainTask None))
      (refl, (refl, (refl, tt))) status h)
  refused c (Service.ChainTask (Some t)) status h =
      and_first (is_ok status) true
      (not_ok ((interrupts_off e, Status.SysDisabled) ∷ refusals S c e
      (Service.ChainTask (Some t)))
      (refl, (refl, (refl, (refl, tt)))) status h)
  refused c call status h = and_false (is_ok status)

  -- what a service leaves, by which the job that calls ends, or not
  pub record HasServed (c : Caller) (ends : Bool) (x : State) : Type 0 where
    pub moves : (k : ℕ) → Moves k (left_by k c ends x.jobs) e.jobs x.jobs
    pub stays : AllStay e.jobs x.jobs ⊎ (may_dispatch e ≡ true)

  pub served_same : (c : Caller) (ends : Bool) (x : State) → ends ≡ false → HasMoved c false x
      → (AllStay e.jobs x.jobs) → HasServed c ends x
  served_same c ends x none moved stay = record {
    moves = λ k. subst (λ b. Moves k (left_by k c b x.jobs) e.jobs x.jobs) (sym none)
        (moved.moves k);
    stays = inl stay;
  }

  pub service_served : (c : Caller) → IsCaller e c → (call : ServiceCall)
      → HasServed c
      (is_accepted (Outcome.Answer (service S c e call).status (service S c e call).results)
      && is_end (Instr.Service call)) (service S c e call).state
  unfolding service
  service_served c calls call =
      go (first_refusal ((interrupts_off e, Status.SysDisabled) ∷ refusals S c e call)) refl
    where
      go : (o : Option Status)
          → first_refusal ((interrupts_off e, Status.SysDisabled) ∷ refusals S c e call) ≡ o
          → HasServed c
          (is_accepted (Outcome.Answer (reply_to S c e call o).status
          (reply_to S c e call o).results)
          && is_end (Instr.Service call)) (reply_to S c e call o).state
      go None free =
          let open_ : (interrupts_off e ≡ false) × (first_refusal (refusals S c e call) ≡ None) =
          passed (interrupts_off e) Status.SysDisabled (refusals S c e call) free in
          let h : HasMoved c (is_end (Instr.Service call)) (effect S c e call) =
          effect_moved c calls call open_.1 in
          record { moves = h.moves; stays = due h.stays open_.0 }
        where
          due : AllStay e.jobs (effect S c e call).jobs ⊎ (e.active ≡ None)
              → interrupts_off e ≡ false
              → AllStay e.jobs (effect S c e call).jobs ⊎ (may_dispatch e ≡ true)
          due (inl stay) on = inl stay
          due (inr idle) on = inr (rw (idle, on) refl)
      go (Some status) is =
          served_same c
          (is_accepted (Outcome.Answer status Results.Nothing) && is_end (Instr.Service call)) e
          (refused c call status is) (same_moved c calls e refl) (λ n h. h)

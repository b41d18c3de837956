-- Services, and instructions of who executes: what their looks tell of the stamps of jobs.
use Rattle.std.proofs.Common.{◌≡◌, ℕ, ◌≤◌, ◌<◌, Bool, true, false, cond, not, ◌&&◌, ◌||◌, List, [], ◌∷◌, map, length, refl, sym, ◌∙◌, ap, subst, arith}
use Rattle.std.specs.Prelude.{Option, Some, None, ◌==◌, slice_index, bit_or}
use Rattle.std.specs.List.{filter, list_any, AllByRecursion}
use Rattle.std.proofs.lemmas.List.Folds.{list_any-append}
use Rattle.osek_base.specs.declared.ids.Owner.{Owner}
use Rattle.osek_base.specs.declared.status.Status.{Status}
use Rattle.osek_base.specs.declared.instr.Instr.{Instr}
use Rattle.osek_base.specs.declared.instr.Control.{Control}
use Rattle.osek_base.specs.declared.instr.Service.{Service}
use Rattle.osek_base.specs.Types.{ServiceCall}
use Rattle.osek_base.specs.System.{System}
use Rattle.osek_base.specs.Instruction.{Context, next, plain}
use Rattle.osek_base.specs.State.{Job, JobId, State, same_id, waits, interrupts_off, jobs_of, jobs_but, words_after}
use Rattle.osek_base.specs.Activation.{activated, released, woken}
use Rattle.osek_base.specs.Service.{Caller, JobCalls, RoutineCalls, NobodyCalls, first_refusal, refusals, with_caller, caller_ended, is_outranked, given_up, gets, releases, waiting_for, meets, is_met, released_by, with_events, events_cleared, event_awaited, effect, with_objects_of, reply_to, service, controlled}
use Rattle.osek_base.specs.Tick.{at_values, job_moved, with_context, answered, executed}
use Rattle.osek_base.specs.Proper.{IsProper}
use Rattle.law_runs.proofs.Lists.{clash, all_weaker}
use Rattle.law_runs.proofs.Known.{IsCaller}
use Rattle.law_runs.proofs.Formed.{IsPlacedJob, HasForm}
use Rattle.law_runs.proofs.FormedService.{service_formed}
use Rattle.law_runs.proofs.SingleTick.{IsKnownInstr, at_known}
use Rattle.law_kept.specs.Kept.{Kept, slot_of, is_gone, kept}
use Rattle.law_kept.proofs.Parts.{filter_none, any_moved, any_parts}
use Rattle.law_kept.proofs.JobMoves.{activated_kept, one_changed, keeps_id}
use Rattle.law_kept.proofs.Settled.{IsSettled, given_of}
use Rattle.law_blockers.specs.Stamps.{Stamps, listed}
use Rattle.law_blockers.specs.Restamping.{named_by}
use Rattle.law_blockers.proofs.ReadyLemmas.{changed_listed}
use Rattle.law_blockers.proofs.RestampedLemmas.{same_listed, same_restamped, made_restamped, event_restamped}
use Rattle.law_blockers.proofs.SameJobs.{stamped_alike, count_alike, task_waits_alike, gone_alike}
use Rattle.law_blockers.proofs.EndStamps.{IsTold, AreNew, restamped_here, ended_here, executed_here, same_told, restamped_told, ended_told, chained_told}

-- the jobs of a task that isn't there
pub none_there : (jobs : List Job) (n t : ℕ) → AllByRecursion (λ j. j.id.task < n) jobs → n ≤ t
    → (slot_of (jobs_of t jobs)).count ≡ 0
none_there jobs n t known past =
    ap (λ js. (slot_of js).count)
    (filter_none (λ j. j.id.task == t) jobs
    (all_weaker (λ j. j.id.task < n) (λ j. (j.id.task == t) ≡ false) jobs (λ j h. other j.id.task h) known))
  where
    other : (m : ℕ) → m < n → (m == t) ≡ false
    other m less = grind (arith, less, past)

-- of a named task that isn't there, there is no job
abbrev pub HasNone : System → State → Type 0
HasNone S m = (t : ℕ) → length S.tasks ≤ t → ((kept S m).slots t).count ≡ 0

pub none_of_known : (S : System) (m : State) → AllByRecursion (IsPlacedJob S) m.jobs → HasNone S m
none_of_known S m placed t past =
    none_there m.jobs (length S.tasks) t
    (all_weaker (IsPlacedJob S) (λ j. j.id.task < length S.tasks) m.jobs (λ j h. h.task) placed) past

-- a release ends no job
released_gone : (n : JobId) (s : State) (r : Option JobId) → is_gone r (released n s).jobs ≡ is_gone r s.jobs
unfolding released
released_gone n s None = refl
released_gone n s (Some r) =
    ap not
    (list_any-append (λ j. same_id j.id r) (jobs_but n s.jobs) (map woken (filter (λ j. same_id j.id n) s.jobs))
    ∙ ap (λ b. list_any (λ j. same_id j.id r) (jobs_but n s.jobs) || b)
    (any_moved (λ j. same_id j.id r) woken (λ j. refl) (filter (λ j. same_id j.id n) s.jobs))
    ∙ any_parts (λ j. same_id j.id r) (λ j. same_id j.id n) s.jobs)

module _ (S : System) (e : State) (u : ℕ) (p : Stamps) where
  -- ---- jobs that stay as they are, and are changed where they stand

  -- no job changed
  pub still_told : (named : Option ℕ) (m : State) → m.jobs ≡ e.jobs → m.running ≡ e.running → (kept S m).gone ≡ (kept S e).gone
      → IsTold S u named e m p
  still_told None m jobs running gone = same_told S u e m p gone (same_listed S e m u 0 p jobs running)
  still_told (Some t) m jobs running gone = restamped_told S u t e m p gone (same_restamped S e m u t p jobs running)

  -- a change by which no job stops waiting
  pub changed_told : (m : State) (g : Job → Job) → ((j : Job) → (g j).id ≡ j.id)
      → ((j : Job) → waits (g j) ≡ false → waits j ≡ false)
      → m.jobs ≡ map g e.jobs → m.running ≡ e.running → IsTold S u None e m p
  changed_told m g ids waiting jobs running =
      same_told S u e m p (gone_alike e m g ids jobs S running) (changed_listed e m u p g ids waiting jobs running)

  caller_told : (c : Caller) (f : Job → Job) → ((j : Job) → (f j).id ≡ j.id) → ((j : Job) → waits (f j) ≡ false → waits j ≡ false)
      → IsTold S u None e (with_objects_of e (with_caller c f e)) p
  caller_told (JobCalls j) f ids waiting =
      changed_told (with_objects_of e (with_caller (JobCalls j) f e)) (one_changed j.id f ids) (keeps_id j.id f ids)
      (λ k. go k (same_id k.id j.id)) refl refl
    where
      go : (k : Job) (b : Bool) → waits (cond b (f k) k) ≡ false → waits k ≡ false
      go k true h = waiting k h
      go k false h = h
  caller_told (RoutineCalls a) f ids waiting = still_told None (with_objects_of e e) refl refl refl
  caller_told NobodyCalls f ids waiting = still_told None (with_objects_of e e) refl refl refl

  either_told : (b : Bool) (x y : State) → IsTold S u None e (with_objects_of e x) p → IsTold S u None e (with_objects_of e y) p
      → IsTold S u None e (with_objects_of e (cond b x y)) p
  either_told true x y f g = f
  either_told false x y f g = g

  awaited_told : (c : Caller) (m : ℕ) → IsTold S u None e (with_objects_of e (event_awaited c m e)) p
  awaited_told (JobCalls j) m =
      either_told (meets m (slice_index e.masks j.id.task)) e (with_caller (JobCalls j) (waiting_for m) e)
      (still_told None (with_objects_of e e) refl refl refl) (caller_told (JobCalls j) (waiting_for m) (λ k. refl) (λ k h. clash h))
  awaited_told (RoutineCalls a) m = still_told None (with_objects_of e e) refl refl refl
  awaited_told NobodyCalls m = still_told None (with_objects_of e e) refl refl refl

  cleared_told : (c : Caller) (m : ℕ) → IsTold S u None e (with_objects_of e (events_cleared c m e)) p
  cleared_told (JobCalls j) m = still_told None (with_objects_of e (events_cleared (JobCalls j) m e)) refl refl refl
  cleared_told (RoutineCalls a) m = still_told None (with_objects_of e e) refl refl refl
  cleared_told NobodyCalls m = still_told None (with_objects_of e e) refl refl refl

  -- ---- services

  module _ (settled : IsSettled S e) (new : AreNew p e) where
    made_gone : (t : ℕ) → (kept S (with_objects_of e (activated S t e))).gone ≡ (kept S e).gone
    unfolding activated
    made_gone t = ap (λ (o : Kept). o.gone) (activated_kept S t e (given_of e.made e.jobs e.running settled.single.runs))

    made_told : (t : ℕ) → IsTold S u (Some t) e (with_objects_of e (activated S t e)) p
    made_told t =
        restamped_told S u t e (with_objects_of e (activated S t e)) p (made_gone t)
        (made_restamped S e (with_objects_of e (activated S t e)) u t p settled.single refl refl (new t))

    terminated_told : (c : Caller) → IsCaller e c → IsTold S u None e (with_objects_of e (caller_ended c e)) p
    terminated_told (JobCalls j) calls = ended_told S e u p settled j calls
    terminated_told (RoutineCalls a) calls = still_told None (with_objects_of e e) refl refl refl
    terminated_told NobodyCalls calls = still_told None (with_objects_of e e) refl refl refl

    chain_told : (c : Caller) (t : ℕ) → IsCaller e c
        → IsTold S u (Some t) e (with_objects_of e (activated S t (caller_ended c e))) p
    chain_told (JobCalls j) t calls = chained_told S e u p settled j calls t new
    chain_told (RoutineCalls a) t calls = made_told t
    chain_told NobodyCalls t calls = made_told t

    event_told : (c : Caller) (t m : ℕ) → IsTold S u (Some t) e (with_objects_of e (effect S c e (Service.SetEvent (Some t) m))) p
    event_told c t m =
        restamped_told S u t e (with_objects_of e (effect S c e (Service.SetEvent (Some t) m))) p
        (go (jobs_of t e.jobs)) (event_restamped S e u p settled.single c t (bit_or (slice_index e.masks t) m))
      where
        set : ℕ
        set = bit_or (slice_index e.masks t) m

        go : (js : List Job) → is_gone e.running (released_by set js (with_events t set e)).jobs ≡ is_gone e.running e.jobs
        go [] = refl
        go (j ∷ js) = pick (is_met set j.waits_for)
          where
            pick : (b : Bool) → is_gone e.running (cond b (released j.id (with_events t set e)) (with_events t set e)).jobs
                ≡ is_gone e.running e.jobs
            pick true = released_gone j.id (with_events t set e) e.running
            pick false = refl

    effect_told : (c : Caller) → IsCaller e c → (call : ServiceCall)
        → IsTold S u (named_by (Instr.Service call)) e (with_objects_of e (effect S c e call)) p
    effect_told c calls (Service.ActivateTask None) = still_told None (with_objects_of e e) refl refl refl
    effect_told c calls (Service.ActivateTask (Some t)) = made_told t
    effect_told c calls Service.TerminateTask = terminated_told c calls
    effect_told c calls (Service.ChainTask None) = still_told None (with_objects_of e e) refl refl refl
    effect_told c calls (Service.ChainTask (Some t)) = chain_told c t calls
    effect_told c calls Service.Schedule =
        either_told (is_outranked S c e.jobs) (with_caller c given_up e) e (caller_told c given_up (λ j. refl) (λ j h. h))
        (still_told None (with_objects_of e e) refl refl refl)
    effect_told c calls Service.GetTaskId = still_told None (with_objects_of e e) refl refl refl
    effect_told c calls (Service.GetTaskState o) = still_told None (with_objects_of e e) refl refl refl
    effect_told c calls (Service.GetResource None) = still_told None (with_objects_of e e) refl refl refl
    effect_told c calls (Service.GetResource (Some r)) = caller_told c (gets r) (λ j. refl) (λ j h. h)
    effect_told c calls (Service.ReleaseResource None) = still_told None (with_objects_of e e) refl refl refl
    effect_told c calls (Service.ReleaseResource (Some r)) = caller_told c releases (λ j. refl) (λ j h. h)
    effect_told c calls (Service.LoadShared o i) = still_told None (with_objects_of e e) refl refl refl
    effect_told c calls (Service.StoreShared None i v) = still_told None (with_objects_of e e) refl refl refl
    effect_told c calls (Service.StoreShared (Some r) i v) =
        still_told None (with_objects_of e (effect S c e (Service.StoreShared (Some r) i v))) refl refl refl
    effect_told c calls (Service.SetEvent None m) = still_told None (with_objects_of e e) refl refl refl
    effect_told c calls (Service.SetEvent (Some t) m) = event_told c t m
    effect_told c calls (Service.ClearEvent m) = cleared_told c m
    effect_told c calls (Service.GetEvent o) = still_told None (with_objects_of e e) refl refl refl
    effect_told c calls (Service.WaitEvent m) = awaited_told c m
    effect_told c calls (Service.SetRelAlarm None x y) = still_told None (with_objects_of e e) refl refl refl
    effect_told c calls (Service.SetRelAlarm (Some a) x y) =
        still_told None (with_objects_of e (effect S c e (Service.SetRelAlarm (Some a) x y))) refl refl refl
    effect_told c calls (Service.SetAbsAlarm None x y) = still_told None (with_objects_of e e) refl refl refl
    effect_told c calls (Service.SetAbsAlarm (Some a) x y) =
        still_told None (with_objects_of e (effect S c e (Service.SetAbsAlarm (Some a) x y))) refl refl refl
    effect_told c calls (Service.CancelAlarm None) = still_told None (with_objects_of e e) refl refl refl
    effect_told c calls (Service.CancelAlarm (Some a)) =
        still_told None (with_objects_of e (effect S c e (Service.CancelAlarm (Some a)))) refl refl refl
    effect_told c calls (Service.GetAlarm o) = still_told None (with_objects_of e e) refl refl refl
    effect_told c calls (Service.GetAlarmBase o) = still_told None (with_objects_of e e) refl refl refl

    pub service_told : (c : Caller) → IsCaller e c → (call : ServiceCall)
        → IsTold S u (named_by (Instr.Service call)) e (service S c e call).state p
    unfolding service
    service_told c calls call = go (first_refusal ((interrupts_off e, Status.SysDisabled) ∷ refusals S c e call))
      where
        go : (o : Option Status) → IsTold S u (named_by (Instr.Service call)) e (reply_to S c e call o).state p
        go None = effect_told c calls call
        go (Some refusal) = still_told (named_by (Instr.Service call)) (with_objects_of e e) refl refl refl

  -- ---- who executes goes on

  context_told : (named : Option ℕ) (c : Caller) (x : Context) (m : State) → IsTold S u named e m p
      → IsTold S u named e (with_context c x m) p
  context_told named (JobCalls j) x m told v =
      stamped_alike m moved g ids refl waiting e refl u p v ∙ told v ∙ sym seen
    where
      moved : State
      moved = with_context (JobCalls j) x m

      g : Job → Job
      g = one_changed j.id (job_moved x) (λ k. refl)

      ids : (k : Job) → (g k).id ≡ k.id
      ids = keeps_id j.id (job_moved x) (λ k. refl)

      waiting : (k : Job) → waits (g k) ≡ waits k
      waiting k = go (same_id k.id j.id)
        where
          go : (b : Bool) → waits (cond b (job_moved x k) k) ≡ waits k
          go true = refl
          go false = refl

      gone : (kept S moved).gone ≡ (kept S m).gone
      gone = gone_alike m moved g ids refl S refl

      look : (o : Option ℕ) (list : List (Option ℕ)) → restamped_here u o (kept S e) (kept S moved) v list
          ≡ restamped_here u o (kept S e) (kept S m) v list
      look None list = refl
      look (Some t) list = rw (count_alike m moved g ids refl S t, task_waits_alike m moved g ids refl waiting S t) refl

      seen : executed_here u named (kept S e) (kept S moved) v (listed p v e.jobs)
          ≡ executed_here u named (kept S e) (kept S m) v (listed p v e.jobs)
      seen =
          look named (ended_here (kept S e).running (not (kept S e).gone && (kept S moved).gone) v (listed p v e.jobs))
          ∙ ap (λ b. restamped_here u named (kept S e) (kept S m) v
          (ended_here (kept S e).running (not (kept S e).gone && b) v (listed p v e.jobs))) gone
  context_told None (RoutineCalls a) x m told v = told v
  context_told (Some t) (RoutineCalls a) x m told v = told v
  context_told named NobodyCalls x m told v = told v

  context_none : (c : Caller) (x : Context) (m : State) → HasNone S m → HasNone S (with_context c x m)
  context_none (JobCalls j) x m none t past =
      count_alike m (with_context (JobCalls j) x m) (one_changed j.id (job_moved x) (λ k. refl))
      (keeps_id j.id (job_moved x) (λ k. refl)) refl S t
      ∙ none t past
  context_none (RoutineCalls a) x m none t past = none t past
  context_none NobodyCalls x m none t past = none t past

  -- ---- instructions

  named_same : (x : Context) (call : ServiceCall) → named_by (Instr.Service (at_values x call)) ≡ named_by (Instr.Service call)
  named_same x (Service.ActivateTask o) = refl
  named_same x Service.TerminateTask = refl
  named_same x (Service.ChainTask o) = refl
  named_same x Service.Schedule = refl
  named_same x Service.GetTaskId = refl
  named_same x (Service.GetTaskState o) = refl
  named_same x (Service.GetResource o) = refl
  named_same x (Service.ReleaseResource o) = refl
  named_same x (Service.LoadShared o i) = refl
  named_same x (Service.StoreShared o i v) = refl
  named_same x (Service.SetEvent o m) = refl
  named_same x (Service.ClearEvent m) = refl
  named_same x (Service.GetEvent o) = refl
  named_same x (Service.WaitEvent m) = refl
  named_same x (Service.SetRelAlarm o y z) = refl
  named_same x (Service.SetAbsAlarm o y z) = refl
  named_same x (Service.CancelAlarm o) = refl
  named_same x (Service.GetAlarm o) = refl
  named_same x (Service.GetAlarmBase o) = refl

  controlled_told : (control : Control ℕ) → IsTold S u None e (controlled control e) p
  controlled_told Control.DisableAllInterrupts = still_told None (controlled Control.DisableAllInterrupts e) refl refl refl
  controlled_told Control.EnableAllInterrupts = still_told None (controlled Control.EnableAllInterrupts e) refl refl refl
  controlled_told Control.SuspendAllInterrupts = still_told None (controlled Control.SuspendAllInterrupts e) refl refl refl
  controlled_told Control.ResumeAllInterrupts = still_told None (controlled Control.ResumeAllInterrupts e) refl refl refl
  controlled_told Control.SuspendOsInterrupts = still_told None (controlled Control.SuspendOsInterrupts e) refl refl refl
  controlled_told Control.ResumeOsInterrupts = still_told None (controlled Control.ResumeOsInterrupts e) refl refl refl
  controlled_told (Control.ShutdownOs n) = still_told None (controlled (Control.ShutdownOs n) e) refl refl refl
  controlled_told Control.ReturnFromInterrupt = still_told None (controlled Control.ReturnFromInterrupt e) refl refl refl

  controlled_none : (control : Control ℕ) → HasNone S e → HasNone S (controlled control e)
  controlled_none Control.DisableAllInterrupts none = none
  controlled_none Control.EnableAllInterrupts none = none
  controlled_none Control.SuspendAllInterrupts none = none
  controlled_none Control.ResumeAllInterrupts none = none
  controlled_none Control.SuspendOsInterrupts none = none
  controlled_none Control.ResumeOsInterrupts none = none
  controlled_none (Control.ShutdownOs n) none = none
  controlled_none Control.ReturnFromInterrupt none = none

  module _ (proper : IsProper S) (settled : IsSettled S e) (form : HasForm S e) (new : AreNew p e) where
    pub executed_told : (who : Owner) (c : Caller) (x : Context) (what : Instr) → IsCaller e c
        → IsTold S u (named_by what) e (executed S who c x what e).state p
    executed_told who c x (Instr.Plain i) calls =
        context_told None c (plain i x (e.words who)).context
        (record e { words = words_after e.words who (plain i x (e.words who)).effect })
        (still_told None (record e { words = words_after e.words who (plain i x (e.words who)).effect }) refl refl refl)
    executed_told who c x (Instr.Service call) calls =
        subst (λ o. IsTold S u o e (executed S who c x (Instr.Service call) e).state p) (named_same x call)
        (context_told (named_by (Instr.Service (at_values x call))) c
        (answered (service S c e (at_values x call)).status (service S c e (at_values x call)).results x)
        (service S c e (at_values x call)).state
        (service_told settled new c calls (at_values x call)))
    executed_told who c x (Instr.Control control) calls = context_told None c (next x) (controlled control e)
        (controlled_told control)

    pub executed_none : (who : Owner) (c : Caller) (x : Context) (what : Instr) → IsCaller e c → IsKnownInstr S what
        → HasNone S (executed S who c x what e).state
    executed_none who c x (Instr.Plain i) calls instr =
        context_none c (plain i x (e.words who)).context
        (record e { words = words_after e.words who (plain i x (e.words who)).effect })
        (none_of_known S e form.formed.jobs)
    executed_none who c x (Instr.Service call) calls instr =
        context_none c (answered (service S c e (at_values x call)).status (service S c e (at_values x call)).results x)
        (service S c e (at_values x call)).state
        (none_of_known S (service S c e (at_values x call)).state
        (service_formed S proper e c (at_values x call) calls (at_known S x call instr) form.formed).jobs)
    executed_none who c x (Instr.Control control) calls instr =
        context_none c (next x) (controlled control e) (controlled_none control (none_of_known S e form.formed.jobs))

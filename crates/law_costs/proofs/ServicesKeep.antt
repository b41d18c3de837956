-- What holds of each job, and of each job as it becomes ready, holds behind a service too.
use Rattle.std.proofs.Common.{◌≡◌, Bool, true, false, cond, not, List, [], ◌∷◌, map, refl, sym, ◌∙◌, ap, subst}
use Rattle.std.specs.Prelude.{ℕ, Option, Some, None, ◌==◌, slice_index, bit_or}
use Rattle.std.specs.List.{AllByRecursion, filter}
use Rattle.osek_base.specs.declared.instr.Service.{Service}
use Rattle.osek_base.specs.declared.status.Status.{Status}
use Rattle.osek_base.specs.Activation.{activated, new_job, released, woken}
use Rattle.osek_base.specs.Service.{Caller, JobCalls, NobodyCalls, RoutineCalls, caller_ended, effect, event_awaited, event_set, events_cleared, first_refusal, gets, given_up, is_met, is_outranked, meets, refusals, released_by, releases, reply_to, service, waiting_for, with_caller, with_events}
use Rattle.osek_base.specs.State.{Job, JobId, State, interrupts_off, jobs_but, jobs_of, same_id, waits, with_job}
use Rattle.osek_base.specs.System.{System}
use Rattle.osek_base.specs.Types.{ServiceCall}
use Rattle.law_runs.proofs.Foremost.{AreApart, only}
use Rattle.law_runs.proofs.Known.{met_waits}
use Rattle.law_runs.proofs.Lists.{EitherWay, Pairs, all_append, all_both, all_filter, all_kept, all_map, all_weaker, clash, cond_case, either_way, pairs_weaker}
use Rattle.law_runs.proofs.RankedMoves.{IsNewest, made_job, made_newest, woken_jobs, woken_newest}
use Rattle.law_runs.proofs.RankedTick.{IsRunState}
use Rattle.law_runs.proofs.Single.{IsSoundPair}

-- what holds of each job but one
abbrev pub IsOther : (Job → Type 0) → JobId → Job → Type 0
IsOther P n k = same_id k.id n ≡ false → P k

-- a change of that one, which keeps its id, leaves it
pub others_changed : (P : Job → Type 0) (n : JobId) (change : Job → Job)
    → ((k : Job) → (change k).id ≡ k.id) → (jobs : List Job) → AllByRecursion (IsOther P n) jobs
    → AllByRecursion (IsOther P n) (with_job n change jobs)
others_changed P n change ids jobs all =
    all_map (IsOther P n) (IsOther P n) (λ k. cond (same_id k.id n) (change k) k) jobs
    (λ k h. one k (same_id k.id n) refl h) all
  where
    one : (k : Job) (b : Bool) → same_id k.id n ≡ b → IsOther P n k
        → IsOther P n (cond b (change k) k)
    one k true is h other = clash (sym is ∙ ap (λ m. same_id m n) (sym (ids k)) ∙ other)
    one k false is h other = h other

-- what holds of each job as it becomes ready: as it is made, and as its wait ends
pub record HoldsOfReady (S : System) (running : Option JobId) (P : Job → Type 0) : Type 0 where
  pub made : (n : JobId) → IsNewest S running (new_job n) → P (new_job n)
  pub freed : (j : Job) → waits j ≡ true → IsNewest S running (woken j) → P j → P (woken j)

pub others_ready : (S : System) (running : Option JobId) (P : Job → Type 0) (n : JobId)
    → HoldsOfReady S running P → HoldsOfReady S running (IsOther P n)
others_ready S running P n ready = record {
  made = λ m new other. ready.made m new;
  freed = λ j waiting new h other. ready.freed j waiting new (h other);
}

all_unmapped : (P : Job → Type 0) (f : Job → Job) (jobs : List Job)
    → AllByRecursion P (map f jobs) → AllByRecursion (λ k. P (f k)) jobs
all_unmapped P f [] all = tt
all_unmapped P f (k ∷ jobs) all = (all.0, all_unmapped P f jobs all.1)

module _ (S : System) (s : State) (good : IsRunState S s) (P : Job → Type 0)
    (ready : HoldsOfReady S s.running P) (all : AllByRecursion P s.jobs) where
  -- ---- jobs that become ready

  pub activates : (t : ℕ) (jobs : List Job) → AllByRecursion P jobs
      → AllByRecursion P (activated S t (record s { jobs = jobs })).jobs
  unfolding activated
  activates t jobs each =
      all_append P jobs (made_job S t s ∷ []) each
      (ready.made (made_job S t s).id (made_newest S t s good.single), tt)

  releases_one : (set t : ℕ) (j : Job)
      → ((Q : Job → Type 0) → AllByRecursion Q s.jobs → Q j) → waits j ≡ true
      → AllByRecursion P (released j.id (with_events t set s)).jobs
  unfolding released
  releases_one set t j member waiting =
      all_append P (jobs_but j.id s.jobs) (woken_jobs S j s)
      (all_kept P (λ k. not (same_id k.id j.id)) s.jobs all)
      (all_map (λ k. (k ≡ j) × (P k × IsNewest S s.running (woken k))) P woken those
      (λ k h. ready.freed k (ap waits h.0 ∙ waiting) h.1.1 h.1.0)
      (all_both (λ k. k ≡ j) (λ k. P k × IsNewest S s.running (woken k)) those itself
      (all_both P (λ k. IsNewest S s.running (woken k)) those
      (all_kept P (λ k. same_id k.id j.id) s.jobs all)
      (all_unmapped (IsNewest S s.running) woken those
      (woken_newest S j s member waiting apart good.ordered)))))
    where
      those : List Job
      those = filter (λ k. same_id k.id j.id) s.jobs

      apart : Pairs AreApart s.jobs
      apart = pairs_weaker (IsSoundPair S) AreApart s.jobs (λ x y h. h.apart) good.single.pairs

      itself : AllByRecursion (λ k. k ≡ j) those
      itself =
          all_weaker
          (λ k. (same_id k.id j.id ≡ true → k ≡ j) × (same_id k.id j.id ≡ true)) (λ k. k ≡ j) those
          (λ k h. h.0 h.1)
          (all_filter (λ k. same_id k.id j.id ≡ true → k ≡ j) (λ k. same_id k.id j.id) s.jobs
          (only j s.jobs
          (member (λ k. AllByRecursion (EitherWay AreApart k) s.jobs)
          (either_way AreApart s.jobs apart))))

  pub sets : (t m : ℕ) → AllByRecursion P (event_set t m s).jobs
  sets t m = go (jobs_of t s.jobs) refl
    where
      events : ℕ
      events = bit_or (slice_index s.masks t) m

      go : (ks : List Job) → jobs_of t s.jobs ≡ ks
          → AllByRecursion P (released_by events ks (with_events t events s)).jobs
      go [] are = all
      go (k ∷ ks) are =
          cond_case (λ (e : State). AllByRecursion P e.jobs) (is_met events k.waits_for)
          (released k.id (with_events t events s)) (with_events t events s)
          (λ met.
          releases_one events t k
          (λ Q each.
          (subst (AllByRecursion Q) are (all_kept Q (λ l. l.id.task == t) s.jobs each)).0)
          (met_waits events k.waits_for met))
          (λ met. all)

  -- ---- services

  -- what a caller changes of its own job, and its end, leave it
  pub record LeavesCaller (who : Caller) : Type 0 where
    pub change : (f : Job → Job) → ((k : Job) → (f k).id ≡ k.id)
        → AllByRecursion P (with_caller who f s).jobs
    pub end : AllByRecursion P (caller_ended who s).jobs

  chains : (who : Caller) (t : ℕ) → AllByRecursion P (caller_ended who s).jobs
      → AllByRecursion P (activated S t (caller_ended who s)).jobs
  chains (JobCalls j) t each = activates t (jobs_but j.id s.jobs) each
  chains (RoutineCalls a) t each = activates t s.jobs each
  chains NobodyCalls t each = activates t s.jobs each

  awaits : (who : Caller) (m : ℕ) → AllByRecursion P (with_caller who (waiting_for m) s).jobs
      → AllByRecursion P (event_awaited who m s).jobs
  awaits (JobCalls j) m each =
      cond_case (λ (e : State). AllByRecursion P e.jobs) (meets m (slice_index s.masks j.id.task)) s
      (record s { jobs = with_job j.id (waiting_for m) s.jobs }) (λ met. all) (λ met. each)
  awaits (RoutineCalls a) m each = all
  awaits NobodyCalls m each = all

  clears : (who : Caller) (m : ℕ) → AllByRecursion P (events_cleared who m s).jobs
  clears (JobCalls j) m = all
  clears (RoutineCalls a) m = all
  clears NobodyCalls m = all

  module _ (who : Caller) (leaves : LeavesCaller who) where
    effect_keeps : (call : ServiceCall) → AllByRecursion P (effect S who s call).jobs
    effect_keeps (Service.ActivateTask None) = all
    effect_keeps (Service.ActivateTask (Some t)) = activates t s.jobs all
    effect_keeps Service.TerminateTask = leaves.end
    effect_keeps (Service.ChainTask None) = all
    effect_keeps (Service.ChainTask (Some t)) = chains who t leaves.end
    effect_keeps Service.Schedule =
        cond_case (λ (e : State). AllByRecursion P e.jobs) (is_outranked S who s.jobs)
        (with_caller who given_up s) s (λ is. leaves.change given_up (λ k. refl)) (λ is. all)
    effect_keeps Service.GetTaskId = all
    effect_keeps (Service.GetTaskState o) = all
    effect_keeps (Service.GetResource None) = all
    effect_keeps (Service.GetResource (Some r)) = leaves.change (gets r) (λ k. refl)
    effect_keeps (Service.ReleaseResource None) = all
    effect_keeps (Service.ReleaseResource (Some r)) = leaves.change releases (λ k. refl)
    effect_keeps (Service.LoadShared o i) = all
    effect_keeps (Service.StoreShared None i v) = all
    effect_keeps (Service.StoreShared (Some r) i v) = all
    effect_keeps (Service.SetEvent None m) = all
    effect_keeps (Service.SetEvent (Some t) m) = sets t m
    effect_keeps (Service.ClearEvent m) = clears who m
    effect_keeps (Service.GetEvent o) = all
    effect_keeps (Service.WaitEvent m) = awaits who m (leaves.change (waiting_for m) (λ k. refl))
    effect_keeps (Service.SetRelAlarm None x y) = all
    effect_keeps (Service.SetRelAlarm (Some b) x y) = all
    effect_keeps (Service.SetAbsAlarm None x y) = all
    effect_keeps (Service.SetAbsAlarm (Some b) x y) = all
    effect_keeps (Service.CancelAlarm None) = all
    effect_keeps (Service.CancelAlarm (Some b)) = all
    effect_keeps (Service.GetAlarm o) = all
    effect_keeps (Service.GetAlarmBase o) = all

    pub reply_keeps : (call : ServiceCall) (o : Option Status)
        → AllByRecursion P (reply_to S who s call o).state.jobs
    reply_keeps call None = effect_keeps call
    reply_keeps call (Some refusal) = all

    pub service_keeps : (call : ServiceCall)
        → AllByRecursion P (service S who s call).state.jobs
    unfolding service
    service_keeps call =
        reply_keeps call
        (first_refusal ((interrupts_off s, Status.SysDisabled) ∷ refusals S who s call))

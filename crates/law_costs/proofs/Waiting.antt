-- Behind each service a job that waits does so for events of which none is set.
use Rattle.std.proofs.Common.{ℕ, zero, suc, ◌≡◌, ◌⊎◌, inl, inr, Bool, true, false, cond, List, [], ◌∷◌, map, refl, sym, ◌∙◌, ap, subst}
use Rattle.std.specs.Prelude.{Option, Some, None, is_some, slice_index, slice_set, bit_and, bit_or, bit_xor, not, ◌==◌}
use Rattle.std.specs.List.{AllByRecursion, filter}
use Rattle.osek_base.specs.declared.instr.Service.{Service}
use Rattle.osek_base.specs.declared.status.Status.{Status}
use Rattle.osek_base.specs.declared.task.Action.{Action}
use Rattle.osek_base.specs.Activation.{activated, released, woken}
use Rattle.osek_base.specs.Lists.{is_empty}
use Rattle.osek_base.specs.Service.{Caller, JobCalls, NobodyCalls, RoutineCalls, caller_ended, effect, event_awaited, event_set, events_cleared, first_refusal, gets, given_up, is_met, is_outranked, meets, refusals, released_by, releases, reply_to, service, unasked_service, waiting_for, with_caller, with_events}
use Rattle.osek_base.specs.State.{Job, JobId, State, interrupts_off, jobs_but, jobs_of, same_id, waits, with_job}
use Rattle.osek_base.specs.System.{System, is_extended}
use Rattle.osek_base.specs.Tick.{action_call}
use Rattle.osek_base.specs.Types.{ServiceCall}
use Rattle.law_runs.proofs.Foremost.{equal, same_ids, self_equal}
use Rattle.law_runs.proofs.Known.{IsCaller, all_passed, none_kept, passed}
use Rattle.law_runs.proofs.Lists.{all_append, all_any, all_both, all_filter, all_kept, all_map, all_weaker, clash, cond_case, found}
use Rattle.law_runs.proofs.RankedMoves.{made_job}
use Rattle.law_runs.proofs.RankedTick.{IsRunState}
use Rattle.law_runs.proofs.SingleMoves.{alone}
use Rattle.law_costs.proofs.Events.{IsAlike, activated_alike, empty_short, mask_of, others_alike, set_other}
use Rattle.law_costs.proofs.Starts.{may_set, was_not}

abbrev pub IsUnmet : List ℕ → Job → Type 0
IsUnmet masks j = is_met (mask_of masks j) j.waits_for ≡ false

abbrev pub AreUnmet : State → Type 0
AreUnmet s = AllByRecursion (IsUnmet s.masks) s.jobs

-- a job that doesn't wait
ready_unmet : (m : ℕ) (o : Option ℕ) → is_some o ≡ false → is_met m o ≡ false
ready_unmet m None is = refl
ready_unmet m (Some n) is = clash is

-- masks stay of jobs
alike_unmet : (masks others : List ℕ) (jobs : List Job)
    → AllByRecursion (IsAlike masks others) jobs → AllByRecursion (IsUnmet others) jobs
    → AllByRecursion (IsUnmet masks) jobs
alike_unmet masks others [] alike all = tt
alike_unmet masks others (j ∷ jobs) alike all = (
  ap (λ m. is_met m j.waits_for) alike.0 ∙ all.0,
  alike_unmet masks others jobs alike.1 all.1,
)

-- jobs are changed, but not in whose they are and what they wait for
kept_unmet : (masks : List ℕ) (f : Job → Job) (jobs : List Job)
    → ((k : Job) → IsUnmet masks k → IsUnmet masks (f k)) → AllByRecursion (IsUnmet masks) jobs
    → AllByRecursion (IsUnmet masks) (map f jobs)
kept_unmet masks f jobs keeps all = all_map (IsUnmet masks) (IsUnmet masks) f jobs keeps all

pub changed_unmet : (masks : List ℕ) (n : JobId) (change : Job → Job) (jobs : List Job)
    → ((k : Job) → IsUnmet masks k → IsUnmet masks (change k))
    → AllByRecursion (IsUnmet masks) jobs
    → AllByRecursion (IsUnmet masks) (with_job n change jobs)
changed_unmet masks n change jobs keeps all =
    kept_unmet masks (λ k. cond (same_id k.id n) (change k) k) jobs
    (λ k h. one k (same_id k.id n) h) all
  where
    one : (k : Job) (b : Bool) → IsUnmet masks k → IsUnmet masks (cond b (change k) k)
    one k true h = keeps k h
    one k false h = h

all_woken : (masks : List ℕ) (jobs : List Job) → AllByRecursion (IsUnmet masks) (map woken jobs)
all_woken masks [] = tt
all_woken masks (j ∷ jobs) = (refl, all_woken masks jobs)

released_unmet : (n : JobId) (s : State) → AllByRecursion (IsUnmet s.masks) (jobs_but n s.jobs)
    → AreUnmet (released n s)
unfolding released
released_unmet n s others =
    all_append (IsUnmet s.masks) (jobs_but n s.jobs)
    (map woken (filter (λ j. same_id j.id n) s.jobs)) others
    (all_woken s.masks (filter (λ j. same_id j.id n) s.jobs))

-- a mask is replaced, or there is none
set_either : (masks : List ℕ) (t m : ℕ) → (slice_index (slice_set masks t m) t ≡ m)
    ⊎ (slice_index (slice_set masks t m) t ≡ slice_index masks t)
set_either [] t m = inr refl
set_either (x ∷ masks) zero m = inl refl
set_either (x ∷ masks) (suc t) m = set_either masks t m

module _ (S : System) where
  -- ---- activations and events

  pub activated_unmet : (t : ℕ) (s : State) → AreUnmet s → AreUnmet (activated S t s)
  unfolding activated
  activated_unmet t s all =
      let masks = (activated S t s).masks in
      all_append (IsUnmet masks) s.jobs (made_job S t s ∷ [])
      (alike_unmet masks s.masks s.jobs (activated_alike S t s) all) (refl, tt)

  module _ (s : State) (good : IsRunState S s) (all : AreUnmet s) where
    set_unmet : (t x : ℕ) → is_extended S t ≡ true → AreUnmet (event_set t x s)
    set_unmet t x extended = go (jobs_of t s.jobs) refl
      where
        events : ℕ
        events = bit_or (slice_index s.masks t) x

        masks : List ℕ
        masks = slice_set s.masks t events

        stays : (k : Job) → (k.id.task ≡ t → is_met events k.waits_for ≡ false)
            → IsUnmet s.masks k → IsUnmet masks k
        stays k own h = pick (k.id.task == t) refl
          where
            pick : (b : Bool) → (k.id.task == t) ≡ b → IsUnmet masks k
            pick false is =
                ap (λ m. is_met m k.waits_for)
                (set_other s.masks t k.id.task events
                (λ same. clash (sym (ap (λ u. u == t) same ∙ self_equal t) ∙ is)))
                ∙ h
            pick true is =
                let same : k.id.task ≡ t = equal k.id.task t is in
                ap (λ u. is_met (slice_index masks u) k.waits_for) same
                ∙ elim (set_either s.masks t events) [
                  | inl now ↦ ap (λ m. is_met m k.waits_for) now ∙ own same
                  | inr old ↦
                      ap (λ m. is_met m k.waits_for) old
                      ∙ ap (λ u. is_met (slice_index s.masks u) k.waits_for) (sym same) ∙ h
                ]

        go : (js : List Job) → jobs_of t s.jobs ≡ js
            → AreUnmet (released_by events js (with_events t events s))
        go [] are =
            all_weaker (λ k. ((k.id.task == t) ≡ false) × IsUnmet s.masks k) (IsUnmet masks) s.jobs
            (λ k h.
            stays k (λ same. clash (sym (ap (λ u. u == t) same ∙ self_equal t) ∙ h.0)) h.1)
            (all_both (λ k. (k.id.task == t) ≡ false) (IsUnmet s.masks) s.jobs
            (none_kept (λ k. k.id.task == t) s.jobs
            (empty_short (jobs_of t s.jobs) (ap is_empty are)))
            all)
        go (j ∷ js) are =
            cond_case AreUnmet (is_met events j.waits_for) (released j.id (with_events t events s))
            (with_events t events s) free rest
          where
            member : (P : Job → Type 0) → AllByRecursion P s.jobs → P j
            member P each =
                (subst (AllByRecursion P) are (all_kept P (λ k. k.id.task == t) s.jobs each)).0

            own : j.id.task ≡ t
            own =
                equal j.id.task t
                (subst (AllByRecursion (λ k. Unit {0} × ((k.id.task == t) ≡ true))) are
                (all_filter (λ k. Unit {0}) (λ k. k.id.task == t) s.jobs
                (all_any (λ k. Unit {0}) s.jobs (λ k. tt)))).0.1

            rest : is_met events j.waits_for ≡ false → AreUnmet (with_events t events s)
            rest unmet =
                all_weaker (λ k. (k.id.task ≡ j.id.task → k ≡ j) × IsUnmet s.masks k)
                (IsUnmet masks) s.jobs
                (λ k h.
                stays k
                (λ same.
                ap (λ (z : Job). is_met events z.waits_for) (h.0 (same ∙ sym own)) ∙ unmet)
                h.1)
                (all_both (λ k. k.id.task ≡ j.id.task → k ≡ j) (IsUnmet s.masks) s.jobs
                (alone S j s.jobs member (ap (is_extended S) own ∙ extended) good.single.pairs) all)

            free : is_met events j.waits_for ≡ true
                → AreUnmet (released j.id (with_events t events s))
            free met =
                released_unmet j.id (with_events t events s)
                (alike_unmet masks s.masks (jobs_but j.id s.jobs)
                (subst
                (λ u. AllByRecursion (IsAlike (slice_set s.masks u events) s.masks)
                (jobs_but j.id s.jobs))
                own
                (others_alike S s good.single j member (ap (is_extended S) own ∙ extended) events))
                (all_kept (IsUnmet s.masks) (λ k. not (same_id k.id j.id)) s.jobs all))

    -- ---- services

    with_unmet : (c : Caller) (f : Job → Job)
        → ((k : Job) → IsUnmet s.masks k → IsUnmet s.masks (f k)) → AreUnmet (with_caller c f s)
    with_unmet (JobCalls j) f keeps = changed_unmet s.masks j.id f s.jobs keeps all
    with_unmet (RoutineCalls a) f keeps = all
    with_unmet NobodyCalls f keeps = all

    ended_unmet : (c : Caller) → AreUnmet (caller_ended c s)
    ended_unmet (JobCalls j) =
        all_kept (IsUnmet s.masks) (λ k. not (same_id k.id j.id)) s.jobs all
    ended_unmet (RoutineCalls a) = all
    ended_unmet NobodyCalls = all

    cleared_unmet : (c : Caller) (m : ℕ) → IsCaller s c
        → first_refusal (refusals S c s (Service.ClearEvent m)) ≡ None
        → AreUnmet (events_cleared c m s)
    cleared_unmet (RoutineCalls a) m calls none = all
    cleared_unmet NobodyCalls m calls none = all
    cleared_unmet (JobCalls j) m calls none =
        all_weaker (λ k. (k.id.task ≡ j.id.task → k ≡ j) × IsUnmet s.masks k)
        (IsUnmet (slice_set s.masks j.id.task left)) s.jobs (λ k h. one k h.0 h.1)
        (all_both (λ k. k.id.task ≡ j.id.task → k ≡ j) (IsUnmet s.masks) s.jobs
        (alone S j s.jobs member
        (was_not (is_extended S j.id.task)
        (all_passed (refusals S (JobCalls j) s (Service.ClearEvent m)) none).1.0)
        good.single.pairs)
        all)
      where
        left : ℕ
        left = bit_xor (slice_index s.masks j.id.task) (bit_and (slice_index s.masks j.id.task) m)

        member : (P : Job → Type 0) → AllByRecursion P s.jobs → P j
        member P each = (found P (λ k. same_id k.id j.id) s.jobs j each calls.found).0

        ready : waits j ≡ false
        ready = member (λ k. s.running ≡ Some k.id → waits k ≡ false) good.ordered.ready calls.runs

        one : (k : Job) → (k.id.task ≡ j.id.task → k ≡ j) → IsUnmet s.masks k
            → IsUnmet (slice_set s.masks j.id.task left) k
        one k only h = pick (k.id.task == j.id.task) refl
          where
            pick : (b : Bool) → (k.id.task == j.id.task) ≡ b
                → IsUnmet (slice_set s.masks j.id.task left) k
            pick true is =
                ready_unmet (mask_of (slice_set s.masks j.id.task left) k) k.waits_for
                (ap waits (only (equal k.id.task j.id.task is)) ∙ ready)
            pick false is =
                ap (λ n. is_met n k.waits_for)
                (set_other s.masks j.id.task k.id.task left
                (λ same.
                clash (sym (ap (λ u. u == j.id.task) same ∙ self_equal j.id.task) ∙ is)))
                ∙ h

    awaited_unmet : (c : Caller) (m : ℕ) → AreUnmet (event_awaited c m s)
    awaited_unmet (RoutineCalls a) m = all
    awaited_unmet NobodyCalls m = all
    awaited_unmet (JobCalls j) m =
        cond_case AreUnmet (meets m (slice_index s.masks j.id.task)) s
        (record s { jobs = with_job j.id (waiting_for m) s.jobs }) (λ met. all)
        (λ unmet.
        all_map (IsUnmet s.masks) (IsUnmet s.masks)
        (λ k. cond (same_id k.id j.id) (waiting_for m k) k) s.jobs
        (λ k h. one unmet k (same_id k.id j.id) refl h) all)
      where
        one : meets m (slice_index s.masks j.id.task) ≡ false → (k : Job) (b : Bool)
            → same_id k.id j.id ≡ b → IsUnmet s.masks k
            → IsUnmet s.masks (cond b (waiting_for m k) k)
        one unmet k false is h = h
        one unmet k true is h =
            ap (λ (n : JobId). meets m (slice_index s.masks n.task)) (same_ids k.id j.id is)
            ∙ unmet

    chained_unmet : (c : Caller) (t : ℕ) → AreUnmet (activated S t (caller_ended c s))
    chained_unmet c t = activated_unmet t (caller_ended c s) (ended_unmet c)

    effect_unmet : (c : Caller) (call : ServiceCall) → IsCaller s c
        → first_refusal (refusals S c s call) ≡ None → AreUnmet (effect S c s call)
    effect_unmet c (Service.ActivateTask None) calls none = all
    effect_unmet c (Service.ActivateTask (Some t)) calls none = activated_unmet t s all
    effect_unmet c Service.TerminateTask calls none = ended_unmet c
    effect_unmet c (Service.ChainTask None) calls none = all
    effect_unmet c (Service.ChainTask (Some t)) calls none = chained_unmet c t
    effect_unmet c Service.Schedule calls none =
        cond_case AreUnmet (is_outranked S c s.jobs) (with_caller c given_up s) s
        (λ is. with_unmet c given_up (λ k h. h)) (λ is. all)
    effect_unmet c Service.GetTaskId calls none = all
    effect_unmet c (Service.GetTaskState o) calls none = all
    effect_unmet c (Service.GetResource None) calls none = all
    effect_unmet c (Service.GetResource (Some r)) calls none = with_unmet c (gets r) (λ k h. h)
    effect_unmet c (Service.ReleaseResource None) calls none = all
    effect_unmet c (Service.ReleaseResource (Some r)) calls none =
        with_unmet c releases (λ k h. h)
    effect_unmet c (Service.LoadShared o i) calls none = all
    effect_unmet c (Service.StoreShared None i v) calls none = all
    effect_unmet c (Service.StoreShared (Some r) i v) calls none = all
    effect_unmet c (Service.SetEvent None m) calls none = all
    effect_unmet c (Service.SetEvent (Some t) m) calls none =
        set_unmet t m (may_set S s t m c none)
    effect_unmet c (Service.ClearEvent m) calls none = cleared_unmet c m calls none
    effect_unmet c (Service.GetEvent o) calls none = all
    effect_unmet c (Service.WaitEvent m) calls none = awaited_unmet c m
    effect_unmet c (Service.SetRelAlarm None x y) calls none = all
    effect_unmet c (Service.SetRelAlarm (Some b) x y) calls none = all
    effect_unmet c (Service.SetAbsAlarm None x y) calls none = all
    effect_unmet c (Service.SetAbsAlarm (Some b) x y) calls none = all
    effect_unmet c (Service.CancelAlarm None) calls none = all
    effect_unmet c (Service.CancelAlarm (Some b)) calls none = all
    effect_unmet c (Service.GetAlarm o) calls none = all
    effect_unmet c (Service.GetAlarmBase o) calls none = all

    reply_unmet : (c : Caller) (call : ServiceCall) (o : Option Status) → IsCaller s c
        → (o ≡ None → first_refusal (refusals S c s call) ≡ None)
        → AreUnmet (reply_to S c s call o).state
    reply_unmet c call None calls none = effect_unmet c call calls (none refl)
    reply_unmet c call (Some refusal) calls none = all

    pub service_unmet : (c : Caller) (call : ServiceCall) → IsCaller s c
        → AreUnmet (service S c s call).state
    unfolding service
    service_unmet c call calls =
        reply_unmet c call
        (first_refusal ((interrupts_off s, Status.SysDisabled) ∷ refusals S c s call)) calls
        (λ none. (passed (interrupts_off s) Status.SysDisabled (refusals S c s call) none).1)

    pub action_unmet : (act : Action)
        → AreUnmet (unasked_service S NobodyCalls s (action_call act)).state
    unfolding unasked_service
    action_unmet act =
        reply_unmet NobodyCalls (action_call act)
        (first_refusal (refusals S NobodyCalls s (action_call act))) tt (λ none. none)

-- What an instruction of a job adds to the other jobs is no more than what it starts.
use Rattle.std.proofs.Common.{ℕ, ◌≡◌, ◌≤◌, ◌+◌, Bool, true, false, cond, List, [], ◌∷◌, ◌++◌, refl, sym, ◌∙◌, ap, subst, arith}
use Rattle.std.specs.Prelude.{Option, Some, None, slice_index, slice_set, bit_and, bit_or, bit_xor, not}
use Rattle.std.specs.List.{AllByRecursion, sum_by}
use Rattle.std.proofs.lemmas.Bool.{not-true}
use Rattle.osek_base.specs.declared.ids.Owner.{Owner}
use Rattle.osek_base.specs.declared.instr.Control.{Control}
use Rattle.osek_base.specs.declared.instr.Instr.{Instr}
use Rattle.osek_base.specs.declared.instr.Service.{Service}
use Rattle.osek_base.specs.declared.status.Status.{Status}
use Rattle.osek_base.specs.Activation.{activated, is_full, released, woken}
use Rattle.osek_base.specs.Blocker.{is_job}
use Rattle.osek_base.specs.Instruction.{Context, next, plain}
use Rattle.osek_base.specs.Service.{JobCalls, Reply, effect, event_set, first_refusal, gets, given_up, is_met, is_outranked, meets, refusals, released_by, releases, reply_to, service, waiting_for, with_events}
use Rattle.osek_base.specs.State.{Job, JobId, State, interrupts_off, jobs_but, jobs_of, same_id, with_job}
use Rattle.osek_base.specs.System.{System, is_extended}
use Rattle.osek_base.specs.Tick.{answered, at_values, executed, job_moved}
use Rattle.osek_base.specs.Types.{ServiceCall}
use Rattle.law_alarms.specs.Setting.{call_in}
use Rattle.law_blockers.proofs.RestampedLemmas.{released_jobs}
use Rattle.law_runs.proofs.Known.{HasRoom, IsRunningCaller, all_passed, met_waits, passed}
use Rattle.law_runs.proofs.Lists.{all_filter, all_kept, all_weaker, found, pairs_kept}
use Rattle.law_runs.proofs.RankedMoves.{made_job}
use Rattle.law_runs.proofs.RankedTick.{IsRunState}
use Rattle.law_runs.proofs.Single.{IsSoundPair}
use Rattle.law_runs.proofs.SingleMoves.{other_way}
use Rattle.law_costs.specs.Left.{Weights, left_of_job, on, switch_for}
use Rattle.law_costs.specs.Paying.{start_of}
use Rattle.law_costs.specs.Routines.{started_by, started_where}
use Rattle.law_costs.proofs.Events.{IsAlike, IsRaised, activated_alike, activated_clear, activated_jobs, alike_sum, chained_room, mask_of, masks_set, others_alike, raised_sum, room}
use Rattle.law_costs.proofs.Parts.{but_changed, sum_fewer, sum_more}
use Rattle.law_costs.proofs.Starts.{StartsPay, made_part, may_set, others_stay, released_masks, was_not, woken_part}
use Rattle.law_costs.proofs.Switches.{idle_on}

-- of all jobs but one, with interrupts on
abbrev pub left_of_others : System → ℕ → Weights → List ℕ → JobId → List Job → ℕ
left_of_others S p c masks n jobs =
    sum_by (left_of_job S p c masks (λ l. on)) (jobs_but n jobs)

module _ (S : System) (p : ℕ) (c : Weights) (s : State) (starts : StartsPay S p c s)
    (good : IsRunState S s) (j : Job) (calls : IsRunningCaller s j) where
  abbrev by : List ℕ → Job → ℕ
  by masks k = left_of_job S p c masks (λ l. on) k

  abbrev others : State → ℕ
  others e = left_of_others S p c e.masks j.id e.jobs

  member : (P : Job → Type 0) → AllByRecursion P s.jobs → P j
  member P all = (found P (λ k. same_id k.id j.id) s.jobs j all calls.found).0

  -- ---- services

  changed : (masks : List ℕ) (change : Job → Job) → ((k : Job) → (change k).id ≡ k.id)
      → (jobs : List Job)
      → left_of_others S p c masks j.id (with_job j.id change jobs)
      ≡ left_of_others S p c masks j.id jobs
  changed masks change ids jobs =
      ap (sum_by (by masks)) (but_changed j.id change ids jobs)

  either_changed : (change : Job → Job) → ((k : Job) → (change k).id ≡ k.id) → (b : Bool)
      → others (cond b (record s { jobs = with_job j.id change s.jobs }) s) ≤ others s
  either_changed change ids true =
      let same = changed s.masks change ids s.jobs in omega (arith, same)
  either_changed change ids false = omega arith

  ends : left_of_others S p c s.masks j.id (jobs_but j.id s.jobs) ≤ others s
  ends =
      sum_fewer (by s.masks) (λ k. not (same_id k.id j.id)) (λ k. not (same_id k.id j.id)) s.jobs

  one_more : (masks : List ℕ) (jobs : List Job) (k : Job)
      → left_of_others S p c masks j.id (jobs ++ k ∷ [])
      ≤ left_of_others S p c masks j.id jobs + by masks k
  one_more masks jobs k = sum_more (by masks) (λ l. not (same_id l.id j.id)) jobs k

  -- where masks of jobs stay
  stay : (masks masks_before : List ℕ) (jobs : List Job)
      → AllByRecursion (IsAlike masks masks_before) jobs
      → left_of_others S p c masks j.id jobs ≡ left_of_others S p c masks_before j.id jobs
  stay masks masks_before jobs all =
      alike_sum S p c (λ l. on) masks masks_before (jobs_but j.id jobs)
      (all_kept (IsAlike masks masks_before) (λ k. not (same_id k.id j.id)) jobs all)

  activates : (t : ℕ) (r : State) → HasRoom S t r.jobs
      → others (activated S t r) ≤ others r + c.of_task t
  activates t r has =
      adds (activated S t r).masks (activated_alike S t r) (activated_clear S t r has)
    where
      adds : (masks : List ℕ) → AllByRecursion (IsAlike masks r.masks) r.jobs
          → (is_extended S t ≡ true → slice_index masks t ≡ 0)
          → left_of_others S p c masks j.id (activated S t r).jobs ≤ others r + c.of_task t
      adds masks alike clear =
          let is = ap (left_of_others S p c masks j.id) (activated_jobs S t r) in
          let more = one_more masks r.jobs (made_job S t r) in
          let same = stay masks r.masks r.jobs alike in
          let one = made_part S p c s starts masks (made_job S t r).id clear in
          omega (arith, is, more, same, one)

  -- events that are set for a task

  module _ (t x : ℕ) (extended : is_extended S t ≡ true) where
    abbrev set_there : List ℕ
    set_there = masks_set s.masks t x

    releases_one : (k : Job) (ks : List Job) → jobs_of t s.jobs ≡ k ∷ ks
        → is_met (bit_or (slice_index s.masks t) x) k.waits_for ≡ true
        → left_of_others S p c set_there j.id (jobs_but k.id s.jobs ++ woken k ∷ [])
        ≤ others s + c.of_event t x
    releases_one k ks are met =
        let more = one_more set_there (jobs_but k.id s.jobs) (woken k) in
        let same =
        stay set_there s.masks (jobs_but k.id s.jobs)
        (others_stay S p c s starts good.single good.ordered.ranked.still good.ordered.ready t x k
        ks are met) in
        let fewer =
        sum_fewer (by s.masks) (λ l. not (same_id l.id j.id)) (λ l. not (same_id l.id k.id))
        s.jobs in
        let one =
        woken_part S p c s starts good.single good.ordered.ranked.still good.ordered.ready t x k ks
        are met in
        omega (arith, more, same, fewer, one)

    raises : left_of_others S p c set_there j.id s.jobs ≤ others s + c.of_event t x
    raises =
        raised_sum S p c (λ l. on) s.masks t x extended (jobs_but j.id s.jobs)
        (pairs_kept (IsSoundPair S) (λ k. not (same_id k.id j.id)) s.jobs good.single.pairs)
        (all_weaker
        (λ k. ((y : ℕ) → IsRaised c (switch_for s) s.masks y k)
        × (not (same_id k.id j.id) ≡ true))
        (IsRaised c (λ l. on) s.masks x) (jobs_but j.id s.jobs)
        (λ k h. one k (h.0 x) (not-true (same_id k.id j.id) h.1))
        (all_filter (λ k. (y : ℕ) → IsRaised c (switch_for s) s.masks y k)
        (λ k. not (same_id k.id j.id)) s.jobs starts.raised))
      where
        one : (k : Job) → IsRaised c (switch_for s) s.masks x k → same_id k.id j.id ≡ false
            → IsRaised c (λ l. on) s.masks x k
        one k raised other = record {
          inside = raised.inside;
          more = λ ready.
              subst
              (λ w. c.of_job (bit_or (mask_of s.masks k) x) w k
              ≤ c.of_job (mask_of s.masks k) w k + c.of_event k.id.task x)
              (idle_on s k
              (ap (λ o. is_job o k.id) calls.runs ∙ other_way S k.id j.id other))
              (raised.more ready);
        }

    sets : others (event_set t x s) ≤ others s + c.of_event t x
    sets = go (jobs_of t s.jobs) refl
      where
        events : ℕ
        events = bit_or (slice_index s.masks t) x

        go : (ks : List Job) → jobs_of t s.jobs ≡ ks
            → others (released_by events ks (with_events t events s)) ≤ others s + c.of_event t x
        go [] are = raises
        go (k ∷ ks) are = pick (is_met events k.waits_for) refl
          where
            pick : (b : Bool) → is_met events k.waits_for ≡ b
                → others (cond b (released k.id (with_events t events s)) (with_events t events s))
                ≤ others s + c.of_event t x
            pick false met = raises
            pick true met =
                subst
                (λ masks. left_of_others S p c masks j.id
                (released k.id (with_events t events s)).jobs
                ≤ others s + c.of_event t x)
                (sym (released_masks k.id (with_events t events s)))
                (subst
                (λ ls. left_of_others S p c set_there j.id ls ≤ others s + c.of_event t x)
                (sym (released_jobs S (with_events t events s) good.single t k ks are
                (met_waits events k.waits_for met)))
                (releases_one k ks are met))

  -- its own events are cleared
  clears : (m : ℕ) → is_extended S j.id.task ≡ true
      → left_of_others S p c (slice_set s.masks j.id.task m) j.id s.jobs ≤ others s
  clears m extended =
      let same =
      alike_sum S p c (λ l. on) (slice_set s.masks j.id.task m) s.masks (jobs_but j.id s.jobs)
      (others_alike S s good.single j member extended m) in
      omega (arith, same)

  effect_adds : (call : ServiceCall) → first_refusal (refusals S (JobCalls j) s call) ≡ None
      → others (effect S (JobCalls j) s call) ≤ others s + start_of c call
  effect_adds (Service.ActivateTask None) none = omega arith
  effect_adds (Service.ActivateTask (Some t)) none =
      activates t s (room S t s starts.proper (passed (is_full S s t) Status.Limit [] none).0)
  effect_adds Service.TerminateTask none = let less = ends in omega (arith, less)
  effect_adds (Service.ChainTask None) none = omega arith
  effect_adds (Service.ChainTask (Some t)) none =
      let less = ends in
      let tests = all_passed (refusals S (JobCalls j) s (Service.ChainTask (Some t))) none in
      let more =
      activates t (record s { jobs = jobs_but j.id s.jobs })
      (chained_room S s good.single j member t starts.proper tests.1.1.0) in
      omega (arith, less, more)
  effect_adds Service.Schedule none =
      let same = either_changed given_up (λ k. refl) (is_outranked S (JobCalls j) s.jobs) in
      omega (arith, same)
  effect_adds Service.GetTaskId none = omega arith
  effect_adds (Service.GetTaskState o) none = omega arith
  effect_adds (Service.GetResource None) none = omega arith
  effect_adds (Service.GetResource (Some r)) none =
      let same = changed s.masks (gets r) (λ k. refl) s.jobs in
      omega (arith, same)
  effect_adds (Service.ReleaseResource None) none = omega arith
  effect_adds (Service.ReleaseResource (Some r)) none =
      let same = changed s.masks releases (λ k. refl) s.jobs in
      omega (arith, same)
  effect_adds (Service.LoadShared o i) none = omega arith
  effect_adds (Service.StoreShared None i v) none = omega arith
  effect_adds (Service.StoreShared (Some r) i v) none = omega arith
  effect_adds (Service.SetEvent None m) none = omega arith
  effect_adds (Service.SetEvent (Some t) m) none = sets t m (may_set S s t m (JobCalls j) none)
  effect_adds (Service.ClearEvent m) none =
      let tests = all_passed (refusals S (JobCalls j) s (Service.ClearEvent m)) none in
      let less =
      clears
      (bit_xor (slice_index s.masks j.id.task) (bit_and (slice_index s.masks j.id.task) m))
      (was_not (is_extended S j.id.task) tests.1.0) in
      omega (arith, less)
  effect_adds (Service.GetEvent o) none = omega arith
  effect_adds (Service.WaitEvent m) none = go (meets m (slice_index s.masks j.id.task))
    where
      go : (b : Bool)
          → others (cond b s (record s { jobs = with_job j.id (waiting_for m) s.jobs }))
          ≤ others s + 0
      go true = omega arith
      go false =
          let same = changed s.masks (waiting_for m) (λ k. refl) s.jobs in omega (arith, same)
  effect_adds (Service.SetRelAlarm None x y) none = omega arith
  effect_adds (Service.SetRelAlarm (Some b) x y) none = omega arith
  effect_adds (Service.SetAbsAlarm None x y) none = omega arith
  effect_adds (Service.SetAbsAlarm (Some b) x y) none = omega arith
  effect_adds (Service.CancelAlarm None) none = omega arith
  effect_adds (Service.CancelAlarm (Some b)) none = omega arith
  effect_adds (Service.GetAlarm o) none = omega arith
  effect_adds (Service.GetAlarmBase o) none = omega arith

  reply_adds : (call : ServiceCall) (o : Option Status)
      → (o ≡ None → first_refusal (refusals S (JobCalls j) s call) ≡ None)
      → others (reply_to S (JobCalls j) s call o).state
      ≤ others s + started_where c (reply_to S (JobCalls j) s call o).status call
  reply_adds call None none = effect_adds call (none refl)
  reply_adds call (Some refusal) none = omega arith

  service_adds : (call : ServiceCall)
      → others (service S (JobCalls j) s call).state
      ≤ others s + started_where c (service S (JobCalls j) s call).status call
  unfolding service
  service_adds call =
      reply_adds call
      (first_refusal ((interrupts_off s, Status.SysDisabled) ∷ refusals S (JobCalls j) s call))
      (λ none.
      (passed (interrupts_off s) Status.SysDisabled (refusals S (JobCalls j) s call) none).1)

  -- ---- an instruction

  module _ (who : Owner) (x : Context) where
    abbrev there : Instr → State
    there what = (executed S who (JobCalls j) x what s).state

    pub others_add : (what : Instr)
        → others (there what) ≤ others s + started_by S c (JobCalls j) s (call_in x what)
    others_add (Instr.Plain what) =
        let same =
        changed s.masks (job_moved (plain what x (s.words who)).context) (λ k. refl) s.jobs in
        omega (arith, same)
    others_add (Instr.Service call) =
        let r : Reply = service S (JobCalls j) s (at_values x call) in
        let same =
        changed r.state.masks (job_moved (answered r.status r.results x)) (λ k. refl) r.state.jobs
        in
        let more = service_adds (at_values x call) in
        omega (arith, same, more)
    others_add (Instr.Control Control.DisableAllInterrupts) =
        let same = changed s.masks (job_moved (next x)) (λ k. refl) s.jobs in
        omega (arith, same)
    others_add (Instr.Control control) =
        let same = changed s.masks (job_moved (next x)) (λ k. refl) s.jobs in
        omega (arith, same)

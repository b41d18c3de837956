-- A job that is made, or that an event releases, adds no more than is paid for it.
use Rattle.std.proofs.Common.{ℕ, ◌≡◌, ◌≤◌, ◌+◌, Bool, true, false, cond, not, ◌&&◌, ◌||◌, nat_le, List, [], ◌∷◌, ◌++◌, refl, sym, ◌∙◌, ap, subst, arith}
use Rattle.std.specs.Prelude.{Option, Some, None, slice_index, slice_set, bit_or}
use Rattle.std.specs.List.{AllByRecursion}
use Rattle.osek_base.specs.declared.instr.Service.{Service}
use Rattle.osek_base.specs.declared.status.Status.{Status}
use Rattle.osek_base.specs.declared.task.Action.{Action}
use Rattle.osek_base.specs.Activation.{activated, is_full, new_job, released, woken}
use Rattle.osek_base.specs.Blocker.{is_job}
use Rattle.osek_base.specs.Priority.{dynamic_priority, static_priority}
use Rattle.osek_base.specs.Proper.{IsProper}
use Rattle.osek_base.specs.Service.{Caller, NobodyCalls, event_set, first_refusal, is_met, is_suspended, refusals, released_by, reply_to, unasked_service, with_events}
use Rattle.osek_base.specs.State.{Job, JobId, State, jobs_but, jobs_of, same_id, waits}
use Rattle.osek_base.specs.System.{System, is_extended, priority_of}
use Rattle.osek_base.specs.Tick.{action_call}
use Rattle.law_runs.proofs.Foremost.{idle_priority, same_ids}
use Rattle.law_runs.proofs.Formed.{all_passing}
use Rattle.law_runs.proofs.Known.{HasRoom, met_waits, passed}
use Rattle.law_runs.proofs.Lists.{all_weaker, clash, found}
use Rattle.law_runs.proofs.Ranked.{HasReady, IsStill}
use Rattle.law_runs.proofs.RankedMoves.{made_job, made_newest}
use Rattle.law_runs.proofs.RankedTick.{IsRunState}
use Rattle.law_runs.proofs.Single.{IsSingle, IsSoundJob}
use Rattle.law_blockers.proofs.RestampedLemmas.{first_task, found_there, released_jobs, those_of}
use Rattle.law_costs.specs.Left.{Switch, Weights, counts, is_off, left, left_of_alarms, left_of_job, left_of_jobs, on, switch_for}
use Rattle.law_costs.specs.Paying.{start_of}
use Rattle.law_costs.proofs.Dispatch.{high_parts, is_high}
use Rattle.law_costs.proofs.Events.{IsAlike, IsRaised, activated_alike, activated_clear, activated_jobs, alike_left, mask_of, mask_set, masks_set, others_alike, raised_left, room}
use Rattle.law_costs.proofs.SetAlarms.{activated_alarms, event_stays}
use Rattle.law_costs.proofs.Switches.{idle_on}
use Rattle.law_costs.proofs.Totals.{total_kept, total_more}

pub stopped : (o : Option JobId) (n : JobId) → (o ≡ Some n → ⊥) → is_job o n ≡ false
stopped None n other = refl
stopped (Some r) n other = go (same_id r n) refl
  where
    go : (b : Bool) → same_id r n ≡ b → b ≡ false
    go false is = refl
    go true is = absurd (other (ap Some (same_ids r n is)))

pub was_not : (b : Bool) → not b ≡ false → b ≡ true
was_not true is = refl
was_not false is = clash is

-- an activation pays for a new job, and events for each of these jobs: for what comes behind its
-- wait, and for what more is left of one that doesn't wait
pub record StartsPay (S : System) (p : ℕ) (c : Weights) (s : State) : Type 0 where
  pub proper : IsProper S
  pub task : (n : JobId) (m : ℕ) → p ≤ priority_of S n.task
      → (is_extended S n.task ≡ true → m ≡ 0) → c.of_job m on (new_job n) ≤ c.of_task n.task
  pub event : AllByRecursion
      (λ j. (x : ℕ) → p ≤ static_priority S j → waits j ≡ true
      → is_met (bit_or (mask_of s.masks j) x) j.waits_for ≡ true
      → c.of_job (bit_or (mask_of s.masks j) x) on (woken j) ≤ c.of_event j.id.task x)
      s.jobs
  pub raised : AllByRecursion (λ j. (x : ℕ) → IsRaised c (switch_for s) s.masks x j) s.jobs

-- whether an event may be set
pub may_set : (S : System) (s : State) (t x : ℕ)
    → (o : Caller) → first_refusal (refusals S o s (Service.SetEvent (Some t) x)) ≡ None
    → is_extended S t ≡ true
may_set S s t x o none =
    was_not (is_extended S t)
    (passed (not (is_extended S t)) Status.Access ((is_suspended s t, Status.State) ∷ []) none).0

pub released_masks : (n : JobId) (s : State) → (released n s).masks ≡ s.masks
unfolding released
released_masks n s = refl

module _ (S : System) (p : ℕ) (c : Weights) (s : State) (pays : StartsPay S p c s) where
  -- ---- a job that finds interrupts on

  pub new_part : (masks : List ℕ) (j : Job) (most : ℕ)
      → (is_high S p c j ≡ true → c.of_job (mask_of masks j) on j ≤ most)
      → left_of_job S p c masks (λ l. on) j ≤ most
  new_part masks j most low = go (is_high S p c j) refl
    where
      go : (b : Bool) → is_high S p c j ≡ b → cond b (c.of_job (mask_of masks j) on j) 0 ≤ most
      go true is = low is
      go false is = omega arith

  idle_part : (masks : List ℕ) (j : Job) (most : ℕ) → is_job s.running j.id ≡ false
      → left_of_job S p c masks (λ l. on) j ≤ most
      → left_of_job S p c masks (switch_for s) j ≤ most
  idle_part masks j most idle low =
      subst (λ (w : Switch). cond (counts S p w j) (c.of_job (mask_of masks j) w j) 0 ≤ most)
      (sym (idle_on s j idle)) low

  pub made_part : (masks : List ℕ) (n : JobId)
      → (is_extended S n.task ≡ true → slice_index masks n.task ≡ 0)
      → left_of_job S p c masks (λ l. on) (new_job n) ≤ c.of_task n.task
  made_part masks n clear =
      new_part masks (new_job n) (c.of_task n.task)
      (λ is.
      pays.task n (slice_index masks n.task)
      (subst (λ k. p ≤ k) (idle_priority S (new_job n) refl refl)
      (high_parts S p c (new_job n) is).1)
      clear)

  module _ (single : IsSingle S s) where
    abbrev now : State → ℕ
    now e = left_of_jobs S p c e.masks (switch_for s) e.jobs

    pub activated_adds : (t : ℕ) → HasRoom S t s.jobs
        → now (activated S t s) ≤ now s + c.of_task t
    activated_adds t has =
        adds (activated S t s).masks (activated_alike S t s) (activated_clear S t s has)
      where
        adds : (masks : List ℕ) → AllByRecursion (IsAlike masks s.masks) s.jobs
            → (is_extended S t ≡ true → slice_index masks t ≡ 0)
            → left_of_jobs S p c masks (switch_for s) (activated S t s).jobs ≤ now s + c.of_task t
        adds masks alike clear =
            let is = ap (left_of_jobs S p c masks (switch_for s)) (activated_jobs S t s) in
            let more =
            total_more (λ j. counts S p (switch_for s j) j)
            (λ j. c.of_job (mask_of masks j) (switch_for s j) j) c.of_section s.jobs
            (made_job S t s) in
            let same = alike_left S p c (switch_for s) masks s.masks s.jobs alike in
            let idle = stopped s.running (made_job S t s).id (made_newest S t s single).stopped in
            let one =
            idle_part masks (made_job S t s) (c.of_task t) idle
            (made_part masks (made_job S t s).id clear) in
            omega (arith, is, more, same, one)

    module _ (still : AllByRecursion IsStill s.jobs) (ready : HasReady s.running s.jobs) where
      -- a job that waits, and what is paid for its release
      module _ (t x : ℕ) (j : Job) (js : List Job) (are : jobs_of t s.jobs ≡ j ∷ js)
          (met : is_met (bit_or (slice_index s.masks t) x) j.waits_for ≡ true) where
        waiting : waits j ≡ true
        waiting = met_waits (bit_or (slice_index s.masks t) x) j.waits_for met

        there : (P : Job → Type 0) → AllByRecursion P s.jobs → P j
        there P all =
            (found P (λ k. same_id k.id j.id) s.jobs j all
            (found_there S s single t j js are waiting)).0

        of_task_t : j.id.task ≡ t
        of_task_t = first_task S s single t j js are waiting

        extended : is_extended S j.id.task ≡ true
        extended = (there (IsSoundJob S s.made) single.each).extended waiting

        idle : is_job s.running j.id ≡ false
        idle =
            stopped s.running j.id
            (λ runs.
            clash (sym waiting ∙ there (λ k. s.running ≡ Some k.id → waits k ≡ false) ready runs))

        level : dynamic_priority S j ≡ static_priority S j
        level =
            let rest = there IsStill still waiting in
            idle_priority S j rest.0 rest.1

        abbrev masks_there : List ℕ
        masks_there = masks_set s.masks t x

        pub woken_part : left_of_job S p c masks_there (λ l. on) (woken j) ≤ c.of_event t x
        woken_part =
            new_part masks_there (woken j) (c.of_event t x)
            (λ is. paid (subst (λ k. p ≤ k) level (high_parts S p c (woken j) is).1))
          where
            paid : p ≤ static_priority S j
                → c.of_job (mask_of masks_there j) on (woken j) ≤ c.of_event t x
            paid up =
                let raised =
                there (λ k. (y : ℕ) → IsRaised c (switch_for s) s.masks y k) pays.raised x in
                let pay =
                there
                (λ k. (y : ℕ) → p ≤ static_priority S k → waits k ≡ true
                → is_met (bit_or (mask_of s.masks k) y) k.waits_for ≡ true
                → c.of_job (bit_or (mask_of s.masks k) y) on (woken k) ≤ c.of_event k.id.task y)
                pays.event x up waiting
                (ap (λ u. is_met (bit_or (slice_index s.masks u) x) j.waits_for) of_task_t ∙ met) in
                let whole =
                ap (λ m. c.of_job m on (woken j))
                (mask_set s.masks t x j of_task_t raised.inside) in
                let same = ap (λ u. c.of_event u x) of_task_t in
                omega (arith, pay, whole, same)

        -- masks of the others stay
        pub others_stay : AllByRecursion (IsAlike masks_there s.masks) (jobs_but j.id s.jobs)
        others_stay =
            subst
            (λ u. AllByRecursion
            (IsAlike (slice_set s.masks u (bit_or (slice_index s.masks t) x)) s.masks)
            (jobs_but j.id s.jobs))
            of_task_t
            (others_alike S s single j there extended (bit_or (slice_index s.masks t) x))

        itself : counts S p (switch_for s j) j ≡ false
        itself =
            ap (λ b. not b && (is_off (switch_for s j) || nat_le p (dynamic_priority S j))) waiting

        uncounted : (ks : List Job)
            → AllByRecursion
            (λ k. same_id k.id j.id ≡ true → counts S p (switch_for s k) k ≡ false) ks
            → AllByRecursion
            (λ k. not (same_id k.id j.id) ≡ false → counts S p (switch_for s k) k ≡ false) ks
        uncounted [] all = tt
        uncounted (k ∷ ks) all =
            (λ is. all.0 (was_not (same_id k.id j.id) is), uncounted ks all.1)

        woken_adds : left_of_jobs S p c masks_there (switch_for s)
            (jobs_but j.id s.jobs ++ woken j ∷ [])
            ≤ now s + c.of_event t x
        woken_adds =
            let more =
            total_more (λ k. counts S p (switch_for s k) k)
            (λ k. c.of_job (mask_of masks_there k) (switch_for s k) k)
            c.of_section (jobs_but j.id s.jobs) (woken j) in
            let stay =
            alike_left S p c (switch_for s) masks_there s.masks (jobs_but j.id s.jobs) others_stay
            in
            let others =
            total_kept (λ k. counts S p (switch_for s k) k)
            (λ k. c.of_job (mask_of s.masks k) (switch_for s k) k)
            c.of_section (λ k. not (same_id k.id j.id)) s.jobs
            (uncounted s.jobs
            (all_passing (λ k. counts S p (switch_for s k) k ≡ false) (λ k. same_id k.id j.id)
            s.jobs
            (subst (AllByRecursion (λ k. counts S p (switch_for s k) k ≡ false))
            (sym (those_of S s single t j js are waiting)) (itself, tt)))) in
            let one = idle_part masks_there (woken j) (c.of_event t x) idle woken_part in
            omega (arith, more, stay, others, one)

      pub set_adds : (t x : ℕ) → is_extended S t ≡ true → now (event_set t x s)
          ≤ now s + c.of_event t x
      set_adds t x extended = go (jobs_of t s.jobs) refl
        where
          events : ℕ
          events = bit_or (slice_index s.masks t) x

          stays : left_of_jobs S p c (masks_set s.masks t x) (switch_for s) s.jobs
              ≤ now s + c.of_event t x
          stays =
              raised_left S p c (switch_for s) s.masks t x extended s.jobs single.pairs
              (all_weaker (λ k. (y : ℕ) → IsRaised c (switch_for s) s.masks y k)
              (IsRaised c (switch_for s) s.masks x) s.jobs (λ k h. h x) pays.raised)

          go : (js : List Job) → jobs_of t s.jobs ≡ js
              → now (released_by events js (with_events t events s)) ≤ now s + c.of_event t x
          go [] are = stays
          go (j ∷ js) are = pick (is_met events j.waits_for) refl
            where
              pick : (b : Bool) → is_met events j.waits_for ≡ b
                  → now (cond b (released j.id (with_events t events s)) (with_events t events s))
                  ≤ now s + c.of_event t x
              pick false met = stays
              pick true met =
                  subst
                  (λ masks. left_of_jobs S p c masks (switch_for s)
                  (released j.id (with_events t events s)).jobs ≤ now s + c.of_event t x)
                  (sym (released_masks j.id (with_events t events s)))
                  (subst
                  (λ ks. left_of_jobs S p c (masks_set s.masks t x) (switch_for s) ks
                  ≤ now s + c.of_event t x)
                  (sym (released_jobs S (with_events t events s) single t j js are
                  (met_waits events j.waits_for met)))
                  (woken_adds t x j js are met))

  -- ---- alarms

  pub action_adds : (act : Action) → IsRunState S s
      → left S p c (unasked_service S NobodyCalls s (action_call act)).state
      ≤ left S p c s + start_of c (action_call act)
  unfolding unasked_service
  action_adds (Action.ActivateTask t) good =
      go (first_refusal (refusals S NobodyCalls s (Service.ActivateTask (Some t)))) refl
    where
      go : (o : Option Status)
          → first_refusal (refusals S NobodyCalls s (Service.ActivateTask (Some t))) ≡ o
          → left S p c (reply_to S NobodyCalls s (Service.ActivateTask (Some t)) o).state
          ≤ left S p c s + c.of_task t
      go None none =
          let more =
          activated_adds good.single t
          (room S t s pays.proper (passed (is_full S s t) Status.Limit [] none).0) in
          let held = ap (left_of_alarms S c) (activated_alarms S t s) in
          omega (arith, more, held)
      go (Some refusal) some = omega arith
  action_adds (Action.SetEvent t x) good =
      go (first_refusal (refusals S NobodyCalls s (Service.SetEvent (Some t) x))) refl
    where
      go : (o : Option Status)
          → first_refusal (refusals S NobodyCalls s (Service.SetEvent (Some t) x)) ≡ o
          → left S p c (reply_to S NobodyCalls s (Service.SetEvent (Some t) x) o).state
          ≤ left S p c s + c.of_event t x
      go None none =
          let more =
          set_adds good.single good.ordered.ranked.still good.ordered.ready t x
          (may_set S s t x NobodyCalls none) in
          let held = ap (left_of_alarms S c) (event_stays s t x) in
          omega (arith, more, held)
      go (Some refusal) some = omega arith

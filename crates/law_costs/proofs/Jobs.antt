-- Costs that pay for the routines and jobs of a run pay for its instructions.
use Rattle.std.proofs.Common.{ℕ, suc, ◌≡◌, ◌<◌, ◌≤◌, ◌+◌, ◌⊎◌, inl, inr, Bool, true, false, not, ◌&&◌, ◌||◌, refl, sym, ◌∙◌, ap, subst, arith}
use Rattle.std.specs.Prelude.{IfSome, List, Option, Some, None, is_some, nat_le}
use Rattle.std.specs.List.{list_any}
use Rattle.std.proofs.lemmas.Bool.{cases_lt, le-leb}
use Rattle.osek_base.specs.declared.arrivals.Arrival.{Arrival}
use Rattle.osek_base.specs.declared.ids.Owner.{Owner}
use Rattle.osek_base.specs.declared.instr.Instr.{Instr}
use Rattle.osek_base.specs.Priority.{dynamic_priority, static_priority}
use Rattle.osek_base.specs.Proper.{IsProper}
use Rattle.osek_base.specs.Reschedule.{reschedule}
use Rattle.osek_base.specs.Service.{Caller, JobCalls, NobodyCalls, RoutineCalls}
use Rattle.osek_base.specs.State.{Active, Job, State, may_dispatch, same_id, waits}
use Rattle.osek_base.specs.System.{System, instruction_at}
use Rattle.osek_base.specs.Tick.{alarm_phase, arrival_phase, execute_phase, executor, start_phase, tick}
use Rattle.osek_base.specs.Trace.{arriving, run}
use Rattle.law_runs.proofs.Foremost.{static_le}
use Rattle.law_runs.proofs.Known.{IsCaller, IsRunningCaller, executor_calls}
use Rattle.law_runs.proofs.Lists.{all_weaker, clash, found, none_some}
use Rattle.law_runs.proofs.Ranked.{IsDispatched, IsUnder}
use Rattle.law_runs.proofs.RankedTick.{IsRunState, run_ordered}
use Rattle.law_runs.proofs.RunSteps.{going_before, run_tick, state_more}
use Rattle.law_runs.proofs.Single.{IsSingle}
use Rattle.law_runs.proofs.SingleTick.{execute_single}
use Rattle.law_blockers.proofs.StepLemmas.{executing_is}
use Rattle.law_windows.specs.Work.{goes_at, has_work, is_active_at, is_busy, is_work, some_pending}
use Rattle.law_costs.specs.Left.{Weights, counts, is_off, left, switch_for, switch_of}
use Rattle.law_costs.specs.Paying.{PayForDispatch}
use Rattle.law_costs.specs.Known.{at_instruction}
use Rattle.law_costs.specs.Jobs.{PaysIn, behind}
use Rattle.law_costs.proofs.Executor.{may_where_on, neither, nobody_idle, nobody_rests, there_is, work_parts}
use Rattle.law_costs.proofs.Instructions.{PayForInstructions, PayForRunJobs, PayForRunRoutines, PayForRunStarts, behind_instruction}
use Rattle.law_costs.proofs.InTicks.{executed_is, executing}
use Rattle.law_costs.proofs.JobTakes.{Runs, behind_active, behind_pending, job_begins, job_takes}
use Rattle.law_costs.proofs.Kept.{at_kept, at_led, behind_led, run_kept}
use Rattle.law_costs.proofs.Parts.{any_weaker}
use Rattle.law_costs.proofs.Positive.{work_counts}
use Rattle.law_costs.proofs.Quiet.{IsUnbusy, is_lower, little_left, none_beside, none_counts_left, not_busy, unbusy}
use Rattle.law_costs.proofs.Routines.{pending_stays, routine_begins, routine_takes, same_routine}
use Rattle.law_costs.proofs.Running.{HasRunning, IsResting}
use Rattle.law_costs.proofs.Ticks.{behind_less}
use Rattle.law_costs.proofs.Work.{active_behind, none_left, none_pends, pending_behind, pending_same, work_behind}

module _ (S : System) (mode : ℕ) (arrivals : List Arrival) (p : ℕ) (c : Weights)
    (proper : IsProper S) (dispatch : PayForDispatch S p c)
    (starts : PayForRunStarts S mode arrivals p c)
    (jobs : PayForRunJobs S mode arrivals p c) (n : ℕ)
    (later : (run S mode arrivals (suc n)).state.over ≡ false) where
  abbrev here : State
  here = (run S mode arrivals n).state

  abbrev at : State
  at = at_instruction S mode arrivals n

  abbrev e : State
  e = behind_instruction S mode arrivals n

  abbrev next : State
  next = (run S mode arrivals (suc n)).state

  going : here.over ≡ false
  going = going_before S mode arrivals n later

  good : IsRunState S at
  good = (executing S proper mode arrivals n going).good

  next_is : next ≡ (tick S (arriving arrivals n) here).after
  next_is = state_more S mode arrivals n going

  tick_at : (tick S (arriving arrivals n) here).executing ≡ at
  tick_at =
      ap (λ t. (tick S (arriving arrivals t) here).executing)
      (sym (run_tick S mode arrivals n going))

  work_is : has_work S p next ≡ has_work S p e
  work_is =
      ap (has_work S p) next_is ∙ work_behind S p (arriving arrivals n) here
      ∙ ap (λ s. has_work S p (execute_phase S s).state) tick_at

  pending_is : next.pending ≡ e.pending
  pending_is =
      ap (λ (s : State). s.pending) next_is ∙ pending_behind S (arriving arrivals n) here
      ∙ ap (λ s. (execute_phase S s).state.pending) tick_at

  -- where work stands and nothing is active or pending, a job counts
  counts_behind : e.active ≡ None → some_pending S p e ≡ false
      → has_work S p e ≡ true → list_any (λ k. counts S p (switch_for e k) k) e.jobs ≡ true
  counts_behind idle quiet some =
      any_weaker (is_work S p) (λ k. counts S p (switch_for e k) k) e.jobs (work_counts S p e)
      (sym
      (ap (λ b. b || list_any (is_work S p) e.jobs) quiet)
      ∙ sym
      (ap (λ o. is_active_at S p o || (some_pending S p e || list_any (is_work S p) e.jobs)) idle)
      ∙ some)

  active_is : next.active ≡ e.active
  active_is =
      ap (λ (s : State). s.active) next_is ∙ active_behind S (arriving arrivals n) here
      ∙ ap (λ s. (execute_phase S s).state.active) tick_at

  next_less : left S p c next ≤ left S p c e
  next_less =
      let less =
      behind_less S p c dispatch proper (arriving arrivals n) here
      (run_ordered S proper mode arrivals n) in
      let is = ap (left S p c) next_is in
      let same =
      ap (λ s. left S p c (execute_phase S s).state) (executing_is S mode arrivals n going) in
      omega (arith, less, is, same)

  -- with interrupts on and no routine active none is pending
  quiet_where_on : may_dispatch at ≡ true → some_pending S p at ≡ false
  quiet_where_on may =
      subst (λ s. some_pending S p s ≡ false) at_is
      (none_pends S p there (ap may_dispatch at_is ∙ may))
    where
      there : State
      there = (reschedule S (arrival_phase (arriving arrivals n) (alarm_phase S here).state)).state

      at_is : start_phase S there ≡ at
      at_is = executing_is S mode arrivals n going

  -- ---- an instruction of a job

  module _ (j : Job) (is : executor at ≡ JobCalls j) where
    calls : IsRunningCaller at j
    calls = subst (IsCaller at) is (executor_calls at)

    runs : Runs at j.id
    runs = record { idle = calls.idle; runs = calls.runs }

    e_is : e ≡ behind S at j
    e_is = executed_is S at (JobCalls j) is

    single : IsSingle S (behind S at j)
    single = subst (IsSingle S) e_is (execute_single S proper at good.single)

    pays : PaysIn S p c at j
    pays = jobs n j later is

    idle_behind : e.active ≡ None
    idle_behind = ap (λ (s : State). s.active) e_is ∙ behind_active S at j calls.idle

    same_pending : e.pending ≡ at.pending
    same_pending = ap (λ (s : State). s.pending) e_is ∙ behind_pending S at j

    counts_or_off : has_work S p next ≡ true
        → list_any (λ k. counts S p (switch_for (behind S at j) k) k) (behind S at j).jobs ≡ false
        → is_off (switch_of at) ≡ true
    counts_or_off some none = go (is_off (switch_of at)) refl
      where
        go : (b : Bool) → is_off (switch_of at) ≡ b → b ≡ true
        go true off = refl
        go false off =
            clash
            (sym
            (counts_behind idle_behind
            (pending_same S p at e same_pending
            ∙ quiet_where_on (may_where_on at calls.idle off))
            (sym work_is ∙ some))
            ∙ ap (λ s. list_any (λ k. counts S p (switch_for s k) k) s.jobs) e_is ∙ none)

    -- a job that doesn't count is the foremost ready one, so no work stands
    uncounted_unbusy : counts S p (switch_of at) j ≡ false → IsUnbusy S p at
    uncounted_unbusy none = record {
      active = ap (is_active_at S p) calls.idle;
      pending = quiet_where_on may;
      jobs =
          all_weaker (IsUnder S j) (λ k. is_work S p k ≡ false) at.jobs (λ k h. unwork k h.top)
          dispatched.under;
    }
      where
        ready : waits j ≡ false
        ready =
            (found (λ k. at.running ≡ Some k.id → waits k ≡ false) (λ k. same_id k.id j.id) at.jobs
            j good.ordered.ready calls.found).0 calls.runs

        parts : (is_off (switch_of at) || nat_le p (dynamic_priority S j)) ≡ false
        parts =
            sym
            (ap (λ b. not b && (is_off (switch_of at) || nat_le p (dynamic_priority S j))) ready)
            ∙ none

        may : may_dispatch at ≡ true
        may =
            may_where_on at calls.idle
            (neither (is_off (switch_of at)) (nat_le p (dynamic_priority S j)) parts).0

        low : dynamic_priority S j < p
        low = elim (cases_lt (dynamic_priority S j) p) [
          | inl under ↦ under
          | inr up ↦
              clash
              (sym (le-leb p (dynamic_priority S j) up)
              ∙ (neither (is_off (switch_of at)) (nat_le p (dynamic_priority S j)) parts).1)
        ]

        dispatched : IsDispatched S at.jobs j
        dispatched =
            (found (λ k. at.running ≡ Some k.id → IsDispatched S at.jobs k)
            (λ k. same_id k.id j.id) at.jobs j
            ((executing S proper mode arrivals n going).dispatched may)
            calls.found).0 calls.runs

        unwork : (k : Job) → (waits k ≡ false → dynamic_priority S k ≤ dynamic_priority S j)
            → is_work S p k ≡ false
        unwork k top = go (is_work S p k) refl
          where
            go : (b : Bool) → is_work S p k ≡ b → b ≡ false
            go false is = refl
            go true is =
                let both = work_parts S p k is in
                let under = top both.0 in
                let high = both.1 in
                let own = static_le S k in
                absurd (omega (arith, under, high, own, low))

    job_busy : is_busy S mode arrivals p n ≡ true → has_work S p next ≡ true
        → left S p c e + 1 ≤ left S p c at
    job_busy stood some = go (counts S p (switch_of at) j) refl
      where
        go : (b : Bool) → counts S p (switch_of at) j ≡ b → left S p c e + 1 ≤ left S p c at
        go true counting =
            let take =
            job_takes S p c at (starts n going) good j calls single pays counting
            (counts_or_off some) in
            let same = ap (left S p c) e_is in
            omega (arith, take, same)
        go false none = absurd (not_busy S p at (uncounted_unbusy none) stood)

    job_begun : IsUnbusy S p at → has_work S p next ≡ true → left S p c e ≤ c.costs.at_begin
    job_begun quiet some =
        let low = (at_kept S p c proper dispatch mode arrivals jobs n later).low in
        let begin =
        job_begins S p c at (starts n going) good j calls single pays
        (is_lower S p c at good low quiet j runs calls.found)
        (none_left S p c at quiet.pending)
        (none_beside S p c at good low quiet j runs calls.found) (counts_or_off some) in
        let same = ap (left S p c) e_is in
        omega (arith, begin, same)

  -- ---- nobody executes

  module _ (nobody : executor at ≡ NobodyCalls) where
    same : e ≡ at
    same = executed_is S at NobodyCalls nobody

    rests : IsResting at
    rests =
        nobody_rests at (at_led S p c proper dispatch mode arrivals jobs n later)
        (nobody_idle at nobody) nobody

    nobody_unbusy : IsUnbusy S p at
    nobody_unbusy = record {
      active = ap (is_active_at S p) (nobody_idle at nobody);
      pending = quiet_where_on (may_where_on at (nobody_idle at nobody) (ap is_off rests.on));
      jobs =
          all_weaker (λ k. waits k ≡ true) (λ k. is_work S p k ≡ false) at.jobs
          (λ k h. ap (λ b. not b && nat_le p (static_priority S k)) h) rests.none;
    }

    nobody_begins : {Y : Type 0} → IsUnbusy S p at → has_work S p next ≡ true → Y
    nobody_begins quiet some =
        absurd (not_busy S p at quiet (sym (ap (has_work S p) same) ∙ sym work_is ∙ some))

  -- ---- any instruction

  takes : PayForRunRoutines S mode arrivals p c → is_busy S mode arrivals p n ≡ true
      → has_work S p next ≡ true → left S p c e + 1 ≤ left S p c at
  takes routines stood some = go (executor at) refl (executor_calls at)
    where
      go : (who : Caller) → executor at ≡ who → IsCaller at who
          → left S p c e + 1 ≤ left S p c at
      go (JobCalls j) is by = job_busy j is stood some
      go (RoutineCalls a) is by =
          routine_takes S p c at (starts n going) good a by (routines n a later is).takes
      go NobodyCalls is by = absurd (not_busy S p at (nobody_unbusy is) stood)

  begins : PayForRunRoutines S mode arrivals p c → IsUnbusy S p at → has_work S p next ≡ true
      → left S p c e ≤ c.costs.at_begin
  begins routines quiet some = go (executor at) refl (executor_calls at)
    where
      go : (who : Caller) → executor at ≡ who → IsCaller at who
          → left S p c e ≤ c.costs.at_begin
      go (JobCalls j) is by = job_begun j is quiet some
      go (RoutineCalls a) is by =
          routine_begins S p c at (starts n going) good a by (routines n a later is)
          (ap (is_active_at S p) (sym by) ∙ quiet.active) quiet.pending
      go NobodyCalls is by = nobody_begins is quiet some

  ends_idle : IsUnbusy S p next → next.active ≡ None → left S p c next ≤ c.costs.at_begin
  ends_idle quiet idle =
      go (behind_led S p c proper dispatch mode arrivals jobs n later (ap is_some idle))
    where
      go : IsResting next ⊎ HasRunning next.running next.jobs → left S p c next ≤ c.costs.at_begin
      go (inl rests) = none_counts_left S p c next quiet idle rests dispatch.section
      go (inr h) =
          let there = there_is next h in
          little_left S p c next (run_ordered S proper mode arrivals (suc n))
          (run_kept S p c proper dispatch mode arrivals jobs (suc n) later).low quiet
          there.job (record { idle = idle; runs = there.runs }) there.found
          dispatch.section

  -- a lower routine that is active behind the tick executed its instruction
  ends_lower : PayForRunRoutines S mode arrivals p c → IsUnbusy S p next → (b : Active)
      → next.active ≡ Some b → left S p c next ≤ c.costs.at_begin
  ends_lower routines quiet b there = go (executor at) refl (executor_calls at)
    where
      go : (who : Caller) → executor at ≡ who → IsCaller at who
          → left S p c next ≤ c.costs.at_begin
      go (JobCalls j) is by =
          absurd (none_some b (sym (idle_behind j is) ∙ sym active_is ∙ there))
      go NobodyCalls is by =
          absurd
          (none_some b
          (sym (nobody_idle at is) ∙ sym (ap (λ (s : State). s.active) (same is))
          ∙ sym active_is ∙ there))
      go (RoutineCalls a) is by =
          let e_is = executed_is S at (RoutineCalls a) is in
          let own : Instr = instruction_at S (Owner.Routine a.routine) a.context.place in
          let one : b.routine ≡ a.routine =
          subst (λ o. IfSome o (λ d. d.routine ≡ a.routine))
          (sym (ap (λ (s : State). s.active) e_is) ∙ sym active_is ∙ there)
          (same_routine S at a by (Owner.Routine a.routine) a.context own) in
          let lower : goes_at S p a.routine ≡ false =
          sym (ap (goes_at S p) one) ∙ sym (ap (is_active_at S p) there) ∙ quiet.active in
          let flags : e.pending ≡ at.pending =
          ap (λ (s : State). s.pending) e_is
          ∙ pending_stays S p c at (starts n going) good a by (Owner.Routine a.routine) a.context
          own in
          let begin =
          routine_begins S p c at (starts n going) good a by (routines n a later is) lower
          (sym (pending_same S p at e flags) ∙ sym (pending_same S p e next pending_is)
          ∙ quiet.pending) in
          let less = next_less in
          omega (arith, begin, less)

  ends : PayForRunRoutines S mode arrivals p c → IsUnbusy S p next
      → left S p c next ≤ c.costs.at_begin
  ends routines quiet = go next.active refl
    where
      go : (o : Option Active) → next.active ≡ o → left S p c next ≤ c.costs.at_begin
      go None idle = ends_idle quiet idle
      go (Some b) there = ends_lower routines quiet b there

pub jobs_pay : (S : System) (mode : ℕ) (arrivals : List Arrival) (p : ℕ) (c : Weights)
    → IsProper S → PayForDispatch S p c → PayForRunStarts S mode arrivals p c
    → PayForRunRoutines S mode arrivals p c → PayForRunJobs S mode arrivals p c
    → PayForInstructions S mode arrivals p c
jobs_pay S mode arrivals p c proper dispatch starts routines jobs = record {
  busy = λ n later stood some.
      takes S mode arrivals p c proper dispatch starts jobs n later routines stood some;
  begun = λ n later idle some.
      begins S mode arrivals p c proper dispatch starts jobs n later routines
      (unbusy S p (at_instruction S mode arrivals n) idle) some;
  ended = λ n later none.
      ends S mode arrivals p c proper dispatch starts jobs n later routines
      (unbusy S p (run S mode arrivals (suc n)).state none);
}

-- Who executes in a run is known, so costs that pay for the known ones pay for those of each run.
use Rattle.std.proofs.Common.{ℕ, zero, suc, ◌≡◌, false, refl, sym, ◌∙◌, ap, subst}
use Rattle.std.specs.Prelude.{IfSome, List}
use Rattle.osek_base.specs.declared.arrivals.Arrival.{Arrival}
use Rattle.osek_base.specs.Proper.{IsProper}
use Rattle.osek_base.specs.Service.{Caller, JobCalls, NobodyCalls, RoutineCalls}
use Rattle.osek_base.specs.State.{Active, Job, State}
use Rattle.osek_base.specs.System.{System}
use Rattle.osek_base.specs.Tick.{execute_phase, executor}
use Rattle.osek_base.specs.Trace.{all_activated, arriving, boot, run, starting_tasks}
use Rattle.law_runs.proofs.FormedTick.{run_form}
use Rattle.law_runs.proofs.RankedTick.{IsRunState, begun_ordered, first_ordered, run_ordered}
use Rattle.law_runs.proofs.RunSteps.{going_before, state_more}
use Rattle.law_runs.proofs.SingleTick.{begun, started_keep}
use Rattle.law_costs.specs.Left.{Weights, switch_of}
use Rattle.law_costs.specs.Known.{Executes, IsKnownAt, IsKnownCaller, IsKnownJob, IsKnownRoutine, Known, StaysKnown, at_instruction}
use Rattle.law_costs.specs.Routines.{PayForRoutines}
use Rattle.law_costs.specs.Jobs.{PayForJobs}
use Rattle.law_costs.specs.Laws.{RunsAreKnown}
use Rattle.law_costs.proofs.Boot.{all_active, boot_state}
use Rattle.law_costs.proofs.Entered.{IsEntered, StaysTaken, before_entered, taken_lasts}
use Rattle.law_costs.proofs.Instructions.{PayForRunJobs, PayForRunRoutines}
use Rattle.law_costs.proofs.InTicks.{at_form, at_is, executing, goes_on}
use Rattle.law_costs.proofs.JobsKeep.{Each, activated_keeps}
use Rattle.law_costs.proofs.KnownTick.{HasKnown, IsKnownThere, before_known, executes, job_known, known_lasts, reschedule_known, routine_known, tick_known}
use Rattle.law_costs.proofs.SettableTick.{at_settable, run_settable}

module _ (S : System) (known : Known) (proper : IsProper S) (stays : StaysKnown S known) where
  -- ---- boot

  record IsBooting (s : State) : Type 0 where
    pub good : IsRunState S s
    pub jobs : Each S (IsKnownThere S known) s
    pub taken : Each S (StaysTaken S) s

  boot_known : (mode : ℕ) → HasKnown S known (boot S mode).state
  unfolding boot
  boot_known mode =
      let ready : IsBooting started =
      started_keep S proper IsBooting
      (λ t s inside older h. record {
        good = first_ordered S proper t s inside older h.good;
        jobs =
            activated_keeps S (IsKnownThere S known) (known_lasts S known proper stays) t s h.good
            h.jobs;
        taken = activated_keeps S (StaysTaken S) (taken_lasts S) t s h.good h.taken;
      })
      mode (record { good = begun_ordered S proper mode; jobs = tt; taken = tt }) in
      reschedule_known S known proper stays started ready.good.single ready.good.ordered.ranked
      (record {
        jobs = ready.jobs;
        active =
            subst (λ o. IfSome o (IsKnownRoutine known (switch_of started)))
            (sym (all_active S (starting_tasks S mode) (begun S proper mode))) tt;
        taken = ready.taken;
      })
    where
      started : State
      started = all_activated S (starting_tasks S mode) (begun S proper mode)

  -- ---- a run

  module _ (mode : ℕ) (arrivals : List Arrival) where
    abbrev here : ℕ → State
    here n = (run S mode arrivals n).state

    module _ (n : ℕ) (later : (here (suc n)).over ≡ false) where
      going : (here n).over ≡ false
      going = going_before S mode arrivals n later

      next : HasKnown S known (here n) → HasKnown S known (here (suc n))
      next kept =
          subst (HasKnown S known) (sym (state_more S mode arrivals n going))
          (tick_known S known proper stays (arriving arrivals n) (here n)
          (run_ordered S proper mode arrivals n) (run_form S proper mode arrivals n) kept
          (run_settable S mode arrivals n)
          (ap (λ s. (execute_phase S s).state.over) (at_is S proper mode arrivals n going)
          ∙ goes_on S proper mode arrivals n later))

    pub run_known : (n : ℕ) → (here n).over ≡ false → HasKnown S known (here n)
    run_known zero later =
        subst (HasKnown S known) (sym (boot_state S mode arrivals)) (boot_known mode)
    run_known (suc n) later = next n later (run_known n (going n later))

    -- ---- at an instruction

    pub at_known : (n : ℕ) → (here n).over ≡ false
        → HasKnown S known (at_instruction S mode arrivals n)
    at_known n going =
        subst (HasKnown S known) (at_is S proper mode arrivals n going)
        (before_known S known proper stays (arriving arrivals n) (here n)
        (run_ordered S proper mode arrivals n) (run_known n going))

    at_entered : (n : ℕ) → (here n).over ≡ false
        → IsEntered S (at_instruction S mode arrivals n)
    at_entered n going =
        subst (IsEntered S) (at_is S proper mode arrivals n going)
        (before_entered S (arriving arrivals n) (here n))

    module _ (n : ℕ) (going : (here n).over ≡ false) where
      abbrev at : State
      at = at_instruction S mode arrivals n

      at_job : (j : Job) → executor at ≡ JobCalls j → IsKnownJob known (switch_of at) j
      at_job =
          job_known S known proper stays at (executing S proper mode arrivals n going)
          (at_form S proper mode arrivals n going) (at_entered n going) (at_known n going)

      at_routine : (a : Active) → executor at ≡ RoutineCalls a
          → IsKnownRoutine known (switch_of at) a
      at_routine =
          routine_known S known proper stays at (executing S proper mode arrivals n going)
          (at_form S proper mode arrivals n going) (at_entered n going) (at_known n going)

      pub who_is_known : IsKnownAt S mode arrivals known n
      who_is_known = go (executor at) refl
        where
          go : (who : Caller) → executor at ≡ who → IsKnownCaller known (switch_of at) who
          go (JobCalls j) is = at_job j is
          go (RoutineCalls a) is = at_routine a is
          go NobodyCalls is = tt

    at_executes : (n : ℕ) → (here (suc n)).over ≡ false → (who : Caller)
        → executor (at_instruction S mode arrivals n) ≡ who
        → Executes S who (at_instruction S mode arrivals n)
    at_executes n later who is =
        executes S known proper stays (at_instruction S mode arrivals n)
        (executing S proper mode arrivals n (going n later))
        (at_form S proper mode arrivals n (going n later)) (at_entered n (going n later))
        (at_known n (going n later)) (at_settable S proper mode arrivals n (going n later))
        (goes_on S proper mode arrivals n later) who is

    pub known_jobs_pay : (p : ℕ) (c : Weights) → PayForJobs S p c known
        → PayForRunJobs S mode arrivals p c
    known_jobs_pay p c pays n j later is =
        pays (at_instruction S mode arrivals n) j (at_executes n later (JobCalls j) is)
        (at_job n (going n later) j is)

    pub known_routines_pay : (p : ℕ) (c : Weights) → PayForRoutines S p c known
        → PayForRunRoutines S mode arrivals p c
    known_routines_pay p c pays n a later is =
        pays (at_instruction S mode arrivals n) a (at_executes n later (RoutineCalls a) is)
        (at_routine n (going n later) a is)

pub runs_are_known : RunsAreKnown
runs_are_known S mode arrivals known proper stays n going =
    who_is_known S known proper stays mode arrivals n going

-- Where costs pay for events of known jobs, they do for those of a state, and while alarms act.
use Rattle.std.proofs.Common.{ℕ, ◌≡◌, ◌<◌, ◌≤◌, true, false, length, sym, ◌∙◌, subst}
use Rattle.std.specs.Prelude.{Some, bit_or}
use Rattle.std.specs.List.{AllByRecursion}
use Rattle.osek_base.specs.Activation.{woken}
use Rattle.osek_base.specs.Alarm.{alarms_advanced}
use Rattle.osek_base.specs.Priority.{static_priority}
use Rattle.osek_base.specs.Proper.{IsProper}
use Rattle.osek_base.specs.Service.{is_met}
use Rattle.osek_base.specs.State.{Job, State, waits}
use Rattle.osek_base.specs.System.{System, alarm}
use Rattle.osek_base.specs.Tick.{action_call, alarm_acts}
use Rattle.law_runs.proofs.Formed.{HasForm, IsPlacedJob}
use Rattle.law_runs.proofs.FormedPhases.{acts_form, advanced_form}
use Rattle.law_runs.proofs.Lists.{all_both, all_weaker, clash}
use Rattle.law_runs.proofs.RankedTick.{IsRunState, action_run}
use Rattle.law_runs.proofs.SingleTick.{alarm_known}
use Rattle.law_costs.specs.Left.{Weights, on, switch_for}
use Rattle.law_costs.specs.Known.{IsKnownJob, Known, StaysKnown}
use Rattle.law_costs.specs.Paying.{PayForStarts}
use Rattle.law_costs.proofs.Events.{IsRaised, mask_of}
use Rattle.law_costs.proofs.JobsKeep.{Each, action_keeps}
use Rattle.law_costs.proofs.KnownTick.{IsKnownThere, known_jobs, known_lasts}
use Rattle.law_costs.proofs.Starts.{StartsPay, stopped}
use Rattle.law_costs.proofs.Switches.{idle_on}
use Rattle.law_costs.proofs.Waiting.{AreUnmet, IsUnmet, action_unmet}

module _ (S : System) (known : Known) where
  -- a state in which alarms may act
  pub record MayAct (s : State) : Type 0 where
    pub good : IsRunState S s
    pub form : HasForm S s
    pub jobs : Each S (IsKnownThere S known) s
    pub unmet : AreUnmet s

  module _ (proper : IsProper S) (stays : StaysKnown S known) where
    pub advanced_may : (s : State) → MayAct s
        → MayAct (record s { alarms = alarms_advanced S s })
    advanced_may s may = record {
      good = record { single = may.good.single; ordered = may.good.ordered };
      form = advanced_form S proper s may.form;
      jobs = may.jobs;
      unmet = may.unmet;
    }

    pub acted_may : (a : ℕ) → a < length S.alarms → (s : State) → MayAct s
        → MayAct (alarm_acts S a s).state
    acted_may a inside s may =
        let exists = alarm_known S a proper inside in
        record {
          good = action_run S proper s (alarm S a).action exists may.good;
          form = acts_form S proper s (action_call (alarm S a).action) exists may.form;
          jobs =
              action_keeps S (IsKnownThere S known) (known_lasts S known proper stays)
              (alarm S a).action s may.good may.jobs;
          unmet = action_unmet S s may.good may.unmet (alarm S a).action;
        }

  -- what is known of each job
  record IsMet (s : State) (k : Job) : Type 0 where
    pub ready : s.running ≡ Some k.id → waits k ≡ false
    pub is : IsKnownJob known (switch_for s k) k
    pub placed : IsPlacedJob S k
    pub unmet : IsUnmet s.masks k

  pub starts_pay : (p : ℕ) (c : Weights) → IsProper S → PayForStarts S p c known → (s : State)
      → MayAct s → StartsPay S p c s
  starts_pay p c proper starts s may = record {
    proper = proper;
    task = starts.task;
    event =
        all_weaker (IsMet s)
        (λ k. (x : ℕ) → p ≤ static_priority S k → waits k ≡ true
        → is_met (bit_or (mask_of s.masks k) x) k.waits_for ≡ true
        → c.of_job (bit_or (mask_of s.masks k) x) on (woken k) ≤ c.of_event k.id.task x)
        s.jobs (λ k h. woken_pays k h) each;
    raised =
        all_weaker (IsMet s) (λ k. (x : ℕ) → IsRaised c (switch_for s) s.masks x k) s.jobs
        (λ k h x. record {
          inside =
              subst (λ n. k.id.task < n) (sym may.form.formed.masks) h.placed.task;
          more = λ ready. starts.more (mask_of s.masks k) x (switch_for s k) k h.is ready;
        }) each;
  }
    where
      each : AllByRecursion (IsMet s) s.jobs
      each =
          all_weaker
          (λ k. (s.running ≡ Some k.id → waits k ≡ false)
          × (IsKnownJob known (switch_for s k) k × (IsPlacedJob S k × IsUnmet s.masks k)))
          (IsMet s) s.jobs
          (λ k h. record { ready = h.0; is = h.1.0; placed = h.1.1.0; unmet = h.1.1.1 })
          (all_both (λ k. s.running ≡ Some k.id → waits k ≡ false)
          (λ k. IsKnownJob known (switch_for s k) k × (IsPlacedJob S k × IsUnmet s.masks k)) s.jobs
          may.good.ordered.ready
          (all_both (λ k. IsKnownJob known (switch_for s k) k)
          (λ k. IsPlacedJob S k × IsUnmet s.masks k) s.jobs
          (known_jobs S known s may.form may.jobs)
          (all_both (IsPlacedJob S) (IsUnmet s.masks) s.jobs may.form.formed.jobs may.unmet)))

      woken_pays : (k : Job) → IsMet s k → (x : ℕ) → p ≤ static_priority S k → waits k ≡ true
          → is_met (bit_or (mask_of s.masks k) x) k.waits_for ≡ true
          → c.of_job (bit_or (mask_of s.masks k) x) on (woken k) ≤ c.of_event k.id.task x
      woken_pays k h x up waiting met =
          starts.event (mask_of s.masks k) x k
          (subst (λ w. IsKnownJob known w k)
          (idle_on s k (stopped s.running k.id (λ runs. clash (sym waiting ∙ h.ready runs)))) h.is)
          up waiting h.unmet met

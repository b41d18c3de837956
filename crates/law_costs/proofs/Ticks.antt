-- A tick, but for its instruction, adds no more than what comes in it costs.
use Rattle.std.proofs.Common.{ℕ, ◌≡◌, ◌<◌, ◌≤◌, ◌+◌, Bool, true, false, cond, List, [], ◌∷◌, length, arith}
use Rattle.std.specs.List.{AllByRecursion, sum_by}
use Rattle.std.proofs.lemmas.List.Sums.{sum_by-cons}
use Rattle.osek_base.specs.Alarm.{alarms_advanced, due_alarms, is_due}
use Rattle.osek_base.specs.Lists.{below, is_in}
use Rattle.osek_base.specs.Proper.{IsProper}
use Rattle.osek_base.specs.Reschedule.{reschedule}
use Rattle.osek_base.specs.State.{State}
use Rattle.osek_base.specs.System.{System, alarm}
use Rattle.osek_base.specs.Tick.{alarm_acts, alarm_phase, alarms_act, arrival_phase, before_execution, execute_phase, last_phase, silent, tick}
use Rattle.law_future.specs.Shown.{chosen_of}
use Rattle.law_runs.proofs.Known.{all_below}
use Rattle.law_runs.proofs.Lists.{all_kept}
use Rattle.law_runs.proofs.RankedTick.{IsRunState, alarm_phase_ordered, before_executing}
use Rattle.law_runs.proofs.Single.{IsSingle}
use Rattle.law_runs.proofs.SingleTick.{execute_single}
use Rattle.law_windows.specs.Work.{has_work}
use Rattle.law_costs.specs.Left.{Weights, left}
use Rattle.law_costs.specs.Known.{Known, StaysKnown}
use Rattle.law_costs.specs.Paying.{PayForComing, PayForDispatch, PayForStarts}
use Rattle.law_costs.proofs.Alarms.{AreToExpireOnce, advanced_less}
use Rattle.law_costs.proofs.Dispatch.{reschedule_less}
use Rattle.law_costs.proofs.Flags.{arrivals_add, start_less}
use Rattle.law_costs.proofs.KnownStarts.{MayAct, acted_may, advanced_may, starts_pay}
use Rattle.law_costs.proofs.Starts.{action_adds}

module _ (S : System) (p : ℕ) (c : Weights) (known : Known) (proper : IsProper S)
    (stays : StaysKnown S known) (starts : PayForStarts S p c known)
    (coming : PayForComing S p c) where
  alarms_add : (due : List ℕ) → AllByRecursion (λ a. a < length S.alarms) due → (s : State)
      → MayAct S known s
      → left S p c (alarms_act S due s).state
      ≤ left S p c s + (sum_by c.costs.of_expiry due + sum_by c.of_alarm due)
  alarms_add [] all s may = omega arith
  alarms_add (a ∷ due) all s may =
      let one =
      action_adds S p c s (starts_pay S known p c proper starts s may) (alarm S a).action may.good
      in
      let pay = coming.alarm a all.0 in
      let rest =
      alarms_add due all.1 (alarm_acts S a s).state
      (acted_may S known proper stays a all.0 s may) in
      let expiries = sum_by-cons c.costs.of_expiry a due in
      let held = sum_by-cons c.of_alarm a due in
      omega (arith, one, pay, rest, expiries, held)

  -- alarms that pay hold what their expiry starts
  alarm_phase_adds : (s : State) → MayAct S known s → AreToExpireOnce S c s
      → left S p c (alarm_phase S s).state
      ≤ left S p c s + sum_by c.costs.of_expiry (due_alarms S s)
  unfolding alarm_phase
  alarm_phase_adds s may only =
      let adds =
      alarms_add (due_alarms S s)
      (all_kept (λ a. a < length S.alarms) (is_due S s) (below (length S.alarms))
      (all_below (length S.alarms)))
      (record s { alarms = alarms_advanced S s })
      (advanced_may S known proper stays s may) in
      let held = advanced_less S c s only in
      omega (arith, adds, held)

  module _ (dispatch : PayForDispatch S p c) (arrived : List ℕ) (s : State)
      (good : IsRunState S s) where
    -- phases 1 to 4, where work stands behind them
    pub before_adds : MayAct S known s → AreToExpireOnce S c s
        → has_work S p (before_execution S arrived s).state ≡ true
        → left S p c (before_execution S arrived s).state
        ≤ left S p c s
        + (sum_by c.costs.of_arrival (chosen_of S (λ i. is_in i arrived))
        + sum_by c.costs.of_expiry (due_alarms S s))
    before_adds may only stands =
        let acted : State = (alarm_phase S s).state in
        let raised : State = arrival_phase arrived acted in
        let there : State = (reschedule S raised).state in
        let one = alarm_phase_adds s may only in
        let two = arrivals_add S p c arrived acted in
        let three =
        reschedule_less S p c dispatch raised (alarm_phase_ordered S proper s good).single in
        let four = start_less S p c coming there stands in
        omega (arith, one, two, three, four)

-- ---- phase 6

module _ (S : System) (p : ℕ) (c : Weights) (dispatch : PayForDispatch S p c) where
  last_less : (e : State) → IsSingle S e → left S p c (last_phase S e).state ≤ left S p c e
  last_less e single = go e.over
    where
      go : (b : Bool) → left S p c (cond b (silent e) (reschedule S e)).state ≤ left S p c e
      go true = omega arith
      go false = reschedule_less S p c dispatch e single

  pub behind_less : IsProper S → (arrived : List ℕ) (s : State) → IsRunState S s
      → left S p c (tick S arrived s).after
      ≤ left S p c (execute_phase S (before_execution S arrived s).state).state
  unfolding tick
  behind_less proper arrived s good =
      let at : State = (before_execution S arrived s).state in
      last_less (execute_phase S at).state
      (execute_single S proper at (before_executing S proper arrived s good).good.single)

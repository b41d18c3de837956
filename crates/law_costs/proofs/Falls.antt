-- What is left falls phase by phase, where costs pay for instructions; so they bound responses.
use Rattle.std.proofs.Common.{ℕ, zero, suc, ◌≡◌, ◌≤◌, ◌+◌, true, false, not, ◌||◌, List, [], ◌∷◌, length, ◌∙◌, ap, arith}
use Rattle.std.specs.Prelude.{◌==◌}
use Rattle.std.specs.List.{AllByRecursion, filter, sum_by}
use Rattle.std.proofs.lemmas.Bool.{and_from}
use Rattle.osek_base.specs.declared.arrivals.Arrival.{Arrival}
use Rattle.osek_base.specs.Alarm.{due_alarms, is_due}
use Rattle.osek_base.specs.Lists.{below, is_in}
use Rattle.osek_base.specs.Proper.{IsProper}
use Rattle.osek_base.specs.State.{State}
use Rattle.osek_base.specs.System.{System}
use Rattle.osek_base.specs.Tick.{execute_phase}
use Rattle.osek_base.specs.Trace.{arriving, run}
use Rattle.law_runs.proofs.Foremost.{self_equal}
use Rattle.law_runs.proofs.FormedTick.{run_form}
use Rattle.law_runs.proofs.Lists.{all_weaker}
use Rattle.law_runs.proofs.RankedTick.{IsRunState, run_ordered}
use Rattle.law_runs.proofs.RunSteps.{going_before, state_more}
use Rattle.law_blockers.proofs.StepLemmas.{executing_is}
use Rattle.law_future.proofs.Arrivals.{in_filter}
use Rattle.law_alarms.specs.Expiries.{expires}
use Rattle.law_windows.specs.Work.{has_work, has_work_after, is_busy}
use Rattle.law_windows.specs.Coming.{coming, first_cost}
use Rattle.law_windows.proofs.Before.{or_true}
use Rattle.law_windows.proofs.Expiring.{gaps_bound_responses}
use Rattle.law_windows.proofs.Phases.{phases_make_a_potential}
use Rattle.law_windows.proofs.Steady.{work_stays}
use Rattle.law_costs.specs.Left.{Weights, left}
use Rattle.law_costs.specs.Known.{Known, StaysKnown, at_instruction}
use Rattle.law_costs.specs.Laws.{CostsBoundResponses, CostsFallByPhases, Pay}
use Rattle.law_costs.proofs.Boot.{boot_less, boot_state}
use Rattle.law_costs.proofs.Instructions.{PayForInstructions, behind_instruction}
use Rattle.law_costs.proofs.Jobs.{jobs_pay}
use Rattle.law_costs.proofs.InTicks.{at_form, executing}
use Rattle.law_costs.proofs.KnownStarts.{starts_pay}
use Rattle.law_costs.proofs.Known.{at_known, known_jobs_pay, known_routines_pay, run_known}
use Rattle.law_costs.proofs.KnownSetting.{once_in_runs, set_no_sooner}
use Rattle.law_costs.proofs.Positive.{something_left}
use Rattle.law_costs.proofs.Ticks.{before_adds, behind_less}
use Rattle.law_costs.proofs.Totals.{sum_within}
use Rattle.law_costs.proofs.Unmet.{at_unmet, run_unmet}

each_in : (xs : List ℕ) → AllByRecursion (λ x. is_in x xs ≡ true) xs
each_in [] = tt
each_in (x ∷ xs) = (
  ap (λ b. b || is_in x xs) (self_equal x),
  all_weaker (λ y. is_in y xs ≡ true) (λ y. is_in y (x ∷ xs) ≡ true) xs
      (λ y is. ap (λ b. (x == y) || b) is ∙ or_true (x == y)) (each_in xs),
)

module _ (S : System) (mode : ℕ) (arrivals : List Arrival) (p : ℕ) (c : Weights)
    (known : Known) (proper : IsProper S) (stays : StaysKnown S known)
    (pay : Pay S mode p c known) where
  abbrev here : ℕ → State
  here n = (run S mode arrivals n).state

  abbrev at : ℕ → State
  at n = at_instruction S mode arrivals n

  abbrev behind : ℕ → State
  behind n = behind_instruction S mode arrivals n

  good : (n : ℕ) → IsRunState S (here n)
  good n = run_ordered S proper mode arrivals n

  due_cost : (n : ℕ) → (here n).over ≡ false
      → sum_by c.costs.of_expiry (due_alarms S (here n))
      ≤ sum_by c.costs.of_expiry
      (filter (λ a. expires S mode arrivals a n) (below (length S.alarms)))
  due_cost n going =
      sum_within c.costs.of_expiry (is_due S (here n)) (λ a. expires S mode arrivals a n)
      (below (length S.alarms))
      (all_weaker (λ a. is_in a (below (length S.alarms)) ≡ true)
      (λ a. is_due S (here n) a ≡ true → expires S mode arrivals a n ≡ true)
      (below (length S.alarms))
      (λ a among due.
      and_from (not (here n).over) (is_in a (due_alarms S (here n))) (ap not going)
      (in_filter (is_due S (here n)) a (below (length S.alarms))
      ∙ and_from (is_in a (below (length S.alarms))) (is_due S (here n) a) among due))
      (each_in (below (length S.alarms))))

  before : (n : ℕ) → (here n).over ≡ false → is_busy S mode arrivals p n ≡ true
      → left S p c (at n) ≤ left S p c (here n) + coming S mode arrivals c.costs n
  before n going busy =
      let adds =
      before_adds S p c known proper stays pay.starts pay.coming pay.dispatch
      (arriving arrivals n) (here n) (good n)
      (record {
        good = good n;
        form = run_form S proper mode arrivals n;
        jobs = (run_known S known proper stays mode arrivals n going).jobs;
        unmet = run_unmet S proper mode arrivals n going;
      })
      (once_in_runs S mode arrivals known proper stays c pay.once n going)
      (ap (has_work S p) (executing_is S mode arrivals n going) ∙ busy)
      in
      let same = ap (left S p c) (executing_is S mode arrivals n going) in
      let due = due_cost n going in
      omega (arith, adds, same, due)

  after : (n : ℕ) → (here (suc n)).over ≡ false → left S p c (here (suc n)) ≤ left S p c (behind n)
  after n later =
      let going = going_before S mode arrivals n later in
      let less =
      behind_less S p c pay.dispatch proper (arriving arrivals n) (here n) (good n) in
      let next = ap (left S p c) (state_more S mode arrivals n going) in
      let same =
      ap (λ (s : State). left S p c (execute_phase S s).state)
      (executing_is S mode arrivals n going) in
      omega (arith, less, next, same)

  boots : left S p c (here 0) ≤ c.costs.at_boot
  boots =
      let low = boot_less S p c known pay.starts mode proper pay.dispatch pay.boot in
      let same = ap (left S p c) (boot_state S mode arrivals) in
      omega (arith, low, same)

  module _ (pays : PayForInstructions S mode arrivals p c) where
    unbusy : (n : ℕ) → (here n).over ≡ false → has_work_after S mode arrivals p n ≡ false
        → left S p c (here n) ≤ first_cost c.costs n
    unbusy zero going none = boots
    unbusy (suc n) going none = pays.ended n going none

    woken : (n : ℕ) → (here n).over ≡ false → has_work_after S mode arrivals p n ≡ false
        → is_busy S mode arrivals p n ≡ true
        → left S p c (at n) ≤ first_cost c.costs n + coming S mode arrivals c.costs n
    woken n going none busy =
        let adds = before n going busy in
        let low = unbusy n going none in
        omega (arith, adds, low)

    falls : (n : ℕ) → (here (suc n)).over ≡ false → is_busy S mode arrivals p n ≡ true
        → has_work_after S mode arrivals p (suc n) ≡ true
        → left S p c (here (suc n)) + 1 ≤ left S p c (at n)
    falls n going busy stands =
        let less = after n going in
        let one = pays.busy n going busy stands in
        omega (arith, less, one)

    begins : (n : ℕ) → (here (suc n)).over ≡ false → is_busy S mode arrivals p n ≡ false
        → has_work_after S mode arrivals p (suc n) ≡ true
        → left S p c (here (suc n)) ≤ c.costs.at_begin
    begins n going idle stands =
        let less = after n going in
        let low = pays.begun n going idle stands in
        omega (arith, less, low)

pub costs_fall_by_phases : CostsFallByPhases
costs_fall_by_phases S mode arrivals p c known proper stays pay = record {
  positive = λ n going stands.
      something_left S p c known stays pay.something pay.coming (run S mode arrivals n).state
      (run_form S proper mode arrivals n) (run_known S known proper stays mode arrivals n going)
      stands;
  boot = λ stands. boots S mode arrivals p c known proper stays pay;
  before = λ n going stands.
      before S mode arrivals p c known proper stays pay n going
      (work_stays S mode arrivals p n proper going stands);
  woken = woken S mode arrivals p c known proper stays pay pays;
  behind = falls S mode arrivals p c known proper stays pay pays;
  begun = begins S mode arrivals p c known proper stays pay pays;
}
  where
    pays : PayForInstructions S mode arrivals p c
    pays =
        jobs_pay S mode arrivals p c proper pay.dispatch
        (λ n going.
        starts_pay S known p c proper pay.starts (at_instruction S mode arrivals n)
        (record {
          good = (executing S proper mode arrivals n going).good;
          form = at_form S proper mode arrivals n going;
          jobs = (at_known S known proper stays mode arrivals n going).jobs;
          unmet = at_unmet S proper mode arrivals n going;
        }))
        (known_routines_pay S known proper stays mode arrivals p c pay.routines)
        (known_jobs_pay S known proper stays mode arrivals p c pay.jobs)

pub costs_bound_responses : CostsBoundResponses
costs_bound_responses S mode rules p c known least most proper stays pay later enough =
    gaps_bound_responses S mode rules p c.costs least most proper enough
    (λ arrivals keep. record {
      left = λ n. left S p c (run S mode arrivals n).state;
      potential =
          phases_make_a_potential S mode arrivals p c.costs
          (λ n. left S p c (run S mode arrivals n).state)
          (λ n. left S p c (at_instruction S mode arrivals n))
          (costs_fall_by_phases S mode arrivals p c known proper stays pay);
      sooner = set_no_sooner S mode arrivals known proper stays c.costs least later;
    })

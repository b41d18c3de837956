-- No activation of a task is refused that nobody activates, or one alarm or routine alone.
use Rattle.std.proofs.Common.{ℕ, ◌≡◌, ◌<◌, ◌≤◌, ◌+◌, Bool, true, false, List, length, refl, sym, ◌∙◌, ap, arith}
use Rattle.std.proofs.lemmas.Bool.{and_parts, false_from_ne_true, leb-true}
use Rattle.osek_base.specs.declared.arrivals.Arrival.{Arrival}
use Rattle.osek_base.specs.Alarm.{alarms_advanced, due_alarms}
use Rattle.osek_base.specs.Lists.{is_in}
use Rattle.osek_base.specs.Proper.{IsProper}
use Rattle.osek_base.specs.State.{State}
use Rattle.osek_base.specs.System.{System, activation_of}
use Rattle.osek_base.specs.Trace.{run}
use Rattle.arrival_rules.specs.declared.rule.ArrivalRule.{ArrivalRule}
use Rattle.law_runs.proofs.Known.{proper_at}
use Rattle.law_runs.proofs.Lists.{all_weaker, clash}
use Rattle.law_blockers.specs.Steps.{step_at}
use Rattle.law_alarms.specs.Expiries.{expires}
use Rattle.seen_ticks.specs.Observed.{activations_by, is_number, one_if, refusing, tick_at}
use Rattle.seen_ticks.specs.Told.{refused_in}
use Rattle.law_analysis.specs.Refusing.{AcceptedActions, AlarmsRefuseNone, NeverRefused, NobodyRefuses, alarm_activates}
use Rattle.law_analysis.proofs.RefusingAlarms.{none_refused, not_among, not_full, one_refused, quiet_due}
use Rattle.law_analysis.specs.RefusingByRoutine.{RoutinesRefuseNone}
use Rattle.law_analysis.proofs.RefusingByRoutine.{IsSoleRoutine, is_free_at, there_at}
use Rattle.law_analysis.proofs.RefusingCalls.{run_refused}
use Rattle.law_analysis.proofs.RefusingByAlarm.{IsSole, expires_due, is_free}
use Rattle.law_analysis.proofs.RefusingOrigins.{acts_due, due_rise, only_due}
use Rattle.law_analysis.proofs.RefusingPrograms.{none_refusing}

-- a task may have a job
some_activation : (S : System) (t : ℕ) → IsProper S → t < length S.tasks → 1 ≤ activation_of S t
some_activation S t proper known =
    let here = and_parts _ _ (and_parts _ _ (and_parts _ _
    (and_parts _ _ (proper_at S t proper known)).0).0).0 in
    leb-true 1 (activation_of S t) (and_parts _ _ (and_parts _ _ here.0).0).0

-- ---- what a tick counts

module _ (S : System) (mode : ℕ) (arrivals : List Arrival) (k n : ℕ) where
  sum_none : is_number k (refusing S (tick_at S mode arrivals n).executed) ≡ false
      → activations_by S k (refused_in S mode arrivals n) ≡ 0
      → one_if (is_number k (refusing S (tick_at S mode arrivals n).executed))
      + activations_by S k (refused_in S mode arrivals n) ≡ 0
  sum_none other none = let by = ap one_if other in omega (arith, by, none)

-- ---- the laws

pub nobody_refuses : NobodyRefuses
nobody_refuses S mode rules k programs alarms arrivals n keep going =
    let s : State = (run S mode arrivals n).state in
    sum_none S mode arrivals k n
    (none_refusing S k programs (tick_at S mode arrivals n).executed)
    (none_refused S k (due_alarms S s) (quiet_due S k alarms s)
    (record s { alarms = alarms_advanced S s }))

pub accepted_actions : AcceptedActions
accepted_actions S mode rules k a acts none arrivals n keep going =
    let all = none arrivals n keep going in
    not_among S k a acts (refused_in S mode arrivals n) (omega (arith, all))

none_of_alarm : (S : System) (mode : ℕ) (rules : List ArrivalRule) (a time cycle most k : ℕ)
    → IsProper S → IsSole S mode rules a time cycle most k → NeverRefused S mode rules k
none_of_alarm S mode rules a time cycle most k proper sole arrivals n keep going =
    sum_none S mode arrivals k n
    (none_refusing S k sole.alarm.programs (tick_at S mode arrivals n).executed)
    (go (expires S mode arrivals a n) refl)
  where
    s : State
    s = (run S mode arrivals n).state

    advanced : State
    advanced = record s { alarms = alarms_advanced S s }

    go : (b : Bool) → expires S mode arrivals a n ≡ b
        → activations_by S k (refused_in S mode arrivals n) ≡ 0
    go true is =
        one_refused S k a (due_alarms S s) (due_rise S s) (only_due S s k a sole.alarm.alone)
        (some_activation S k proper sole.known) advanced
        (is_free S mode rules a time cycle most proper arrivals keep k sole n going is)
    go false is =
        none_refused S k (due_alarms S s)
        (all_weaker (λ b. alarm_activates S k b ≡ true → is_in a (due_alarms S s) ≡ true)
        (λ b. alarm_activates S k b ≡ false) (due_alarms S s)
        (λ b h. false_from_ne_true (alarm_activates S k b)
        (λ acts. clash
        (sym (expires_due S mode rules a time cycle most proper arrivals keep n going (h acts))
        ∙ is)))
        (acts_due S s k a sole.alarm.alone)) advanced

pub alarms_refuse_none : AlarmsRefuseNone
alarms_refuse_none S mode rules k a time cycle most proper known basic alarm apart ends = (
  none,
  accepted_actions S mode rules k a (and_parts _ _ alarm.alone).0 none,
)
  where
    none : NeverRefused S mode rules k
    none =
        none_of_alarm S mode rules a time cycle most k proper
        (record { known = known; basic = basic; alarm = alarm; apart = apart; ends = ends })

-- ---- a routine

none_of_routine : (S : System) (mode : ℕ) (rules : List ArrivalRule) (i place latency most k : ℕ)
    → IsProper S → IsSoleRoutine S mode rules i place latency most k → NeverRefused S mode rules k
none_of_routine S mode rules i place latency most k proper sole arrivals n keep going =
    sum_none S mode arrivals k n
    (false_from_ne_true (is_number k (refusing S (tick_at S mode arrivals n).executed)) refused)
    (none_refused S k (due_alarms S s) (quiet_due S k sole.routine.alarms s)
    (record s { alarms = alarms_advanced S s }))
  where
    s : State
    s = (run S mode arrivals n).state

    refused : is_number k (refusing S (tick_at S mode arrivals n).executed) ≡ true → ⊥
    refused h =
        let told = run_refused S k mode arrivals n going h in
        let free = is_free_at S mode rules i place latency most proper arrivals keep k sole n going
        (there_at S mode rules i place latency most proper arrivals keep k sole n told.0) in
        clash
        (sym told.1
        ∙ not_full S k (step_at S mode arrivals n).executing free
        (some_activation S k proper sole.known))

pub routines_refuse_none : RoutinesRefuseNone
routines_refuse_none S mode rules k i place latency most proper known basic there routine some
    starts apart ends =
    none_of_routine S mode rules i place latency most k proper
    (record {
      known = known;
      basic = basic;
      there = there;
      routine = routine;
      some = some;
      starts = starts;
      apart = apart;
      ends = ends;
    })

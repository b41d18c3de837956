-- Where who is known sets alarms no sooner, or once, so do boot and programs in each run.
use Rattle.std.proofs.Common.{ℕ, suc, ◌≡◌, ◌/◌, Bool, true, false, cond, ap, arith, subst, ◌∙◌}
use Rattle.std.specs.Prelude.{IfSome, List, Option, Some, None, ◌==◌}
use Rattle.osek_base.specs.declared.arrivals.Arrival.{Arrival}
use Rattle.osek_base.specs.declared.instr.Service.{Service}
use Rattle.osek_base.specs.declared.task.Counter.{Counter}
use Rattle.osek_base.specs.GoodState.{IsGood, IsShaped}
use Rattle.osek_base.specs.Proper.{IsProper}
use Rattle.osek_base.specs.State.{Expiry, State}
use Rattle.osek_base.specs.System.{System, alarm_start_in, counter_of}
use Rattle.osek_base.specs.Tick.{executor, tick}
use Rattle.osek_base.specs.Trace.{arriving, first_expiry, run}
use Rattle.osek_base.specs.Types.{ServiceCall}
use Rattle.law_runs.proofs.Formed.{HasForm}
use Rattle.law_runs.proofs.Good.{good, shaped}
use Rattle.law_runs.proofs.RankedTick.{IsRunState}
use Rattle.law_runs.proofs.RunSteps.{run_tick}
use Rattle.law_alarms.specs.Expiries.{base_of}
use Rattle.law_alarms.specs.Setting.{executing_in}
use Rattle.law_alarms.proofs.Along.{IsKept, a_cycle_on, along, expired_at, expiry_at}
use Rattle.law_alarms.proofs.Ticked.{SetsTo}
use Rattle.law_windows.specs.Coming.{Costs}
use Rattle.law_windows.specs.Expiring.{AreSetNoSooner}
use Rattle.law_costs.specs.Left.{Weights, switch_of}
use Rattle.law_costs.specs.Known.{IsKnownCaller, Known, StaysKnown, at_instruction}
use Rattle.law_costs.specs.Setting.{AreKnownNoSooner, AreKnownOnce, IsKnownOnce, SetsOnce}
use Rattle.law_costs.proofs.Alarms.{AreToExpireOnce}
use Rattle.law_costs.proofs.InTicks.{at_form, executing}
use Rattle.law_costs.proofs.Known.{who_is_known}

-- a call that sets an alarm once sets it without a cycle
set_once : (r : Counter) (a n : ℕ) (call : ServiceCall) (e : Expiry) → SetsOnce a call
    → SetsTo r n a call e → e.cycle ≡ 0
set_once r a n (Service.SetRelAlarm (Some b) x y) e once sets =
    ap (λ (f : Expiry). f.cycle) sets.1 ∙ once sets.0
set_once r a n (Service.SetAbsAlarm (Some b) x y) e once sets =
    ap (λ (f : Expiry). f.cycle) sets.1 ∙ once sets.0
set_once r a n _ e once sets = absurd sets

module _ (S : System) (mode : ℕ) (arrivals : List Arrival) (known : Known) (proper : IsProper S)
    (stays : StaysKnown S known) where
  -- a good state in which who executes is known
  record IsMet (s : State) : Type 0 where
    pub good : IsGood S s
    pub shaped : IsShaped S s
    pub caller : IsKnownCaller known (switch_of s) (executor s)

  met : (n : ℕ) → (run S mode arrivals n).state.over ≡ false
      → IsMet (executing_in S mode arrivals n)
  met n going =
      subst IsMet
      (ap (λ t. (tick S (arriving arrivals t) (run S mode arrivals n).state).executing)
      (run_tick S mode arrivals n going))
      (record {
        good = good S at runs form;
        shaped = shaped S at runs form;
        caller = who_is_known S known proper stays mode arrivals n going;
      })
    where
      at : State
      at = at_instruction S mode arrivals n

      runs : IsRunState S at
      runs = (executing S proper mode arrivals n going).good

      form : HasForm S at
      form = at_form S proper mode arrivals n going

  pub set_no_sooner : (costs : Costs) (least : ℕ → ℕ)
      → AreKnownNoSooner S mode costs known least → AreSetNoSooner S mode arrivals costs least
  set_no_sooner costs least later a inside costly set =
      let one = later a inside costly set in
      record {
        some = one.some;
        more = λ many last. record {
          boot = one.boot many;
          calls = λ n call before going served.
              (let here = met n going in
              one.calls many (executing_in S mode arrivals n) call here.good here.shaped here.caller
              served);
        };
      }

  -- ---- alarms that are set once

  -- to expire once
  abbrev IsOnce : ℕ → Option Expiry → Type 0
  IsOnce n o = IfSome o (λ e. e.cycle ≡ 0)

  begins_once : (o : Option (ℕ × ℕ)) → IfSome o (λ start. start.1 ≡ 0) → IsOnce 0 (first_expiry o)
  begins_once None once = tt
  begins_once (Some start) once = once

  stays_once : (a n : ℕ) (o : Option Expiry) → IsOnce n o
      → IsOnce (suc n) (expired_at S mode arrivals a n o)
  stays_once a n None once = tt
  stays_once a n (Some e) once = go (e.count == n / base_of S a) (e.cycle == 0)
    where
      go : (b z : Bool) → IsOnce (suc n) (cond b (cond z None (Some (a_cycle_on e))) (Some e))
      go true true = tt
      go true false = once
      go false z = once

  module _ (a : ℕ) (is : IsKnownOnce S mode known a) where
    once_kept : (last : ℕ) → IsKept S mode arrivals a IsOnce last
    once_kept last = record {
      off = λ n. tt;
      boot = begins_once (alarm_start_in S mode a) is.boot;
      expires = λ n below goes once. stays_once a n (expiry_at S mode arrivals a n) once;
      set = λ n below goes call e s.
          (let here = met n goes in
          set_once (counter_of S a) a (n / base_of S a) call e
          (is.calls (executing_in S mode arrivals n) call here.good here.shaped here.caller
          s.served)
          s.sets);
    }

  -- in each state of a run
  pub once_in_runs : (c : Weights) → AreKnownOnce S mode c known → (n : ℕ)
      → (run S mode arrivals n).state.over ≡ false
      → AreToExpireOnce S c (run S mode arrivals n).state
  once_in_runs c once n going a inside pays =
      along S mode arrivals a inside IsOnce n (once_kept a (once a inside pays) n) n (omega arith)
      going

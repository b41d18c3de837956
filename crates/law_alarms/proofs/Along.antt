-- What holds of one alarm's expiry at boot, and stays so from tick to tick, holds along each run.
use Rattle.std.proofs.Common.{ℕ, zero, suc, ◌≡◌, ◌<◌, ◌≤◌, ◌+◌, ◌/◌, false, cond, List, [], ◌∷◌, length, refl, sym, ◌∙◌, ap, subst, arith}
use Rattle.std.specs.Prelude.{Option, Some, None, slice_index_or}
use Rattle.std.proofs.lemmas.List.{get_or-map}
use Rattle.osek_base.specs.declared.arrivals.Arrival.{Arrival}
use Rattle.osek_base.specs.Activation.{activated}
use Rattle.osek_base.specs.Alarm.{alarms_advanced, expiry, is_due, is_due_at, renewed}
use Rattle.osek_base.specs.Reschedule.{reschedule}
use Rattle.osek_base.specs.State.{Expiry, State, still}
use Rattle.osek_base.specs.System.{Alarm, System, alarm_start_in, counter_of, no_alarm, start_in}
use Rattle.osek_base.specs.Trace.{all_activated, arriving, boot, first_expiry, run, starting_alarms, starting_tasks}
use Rattle.osek_base.specs.Types.{ServiceCall}
use Rattle.law_runs.proofs.RunSteps.{going_before, run_tick, state_more}
use Rattle.law_future.proofs.Tables.{table_at}
use Rattle.law_alarms.specs.Expiries.{base_of}
use Rattle.law_alarms.specs.Setting.{IsServed, executing_in}
use Rattle.law_alarms.proofs.Ticked.{SetsTo, tick_leaves}

-- ---- boot

alarms_activated : (S : System) (t : ℕ) (s : State) → (activated S t s).alarms ≡ s.alarms
unfolding activated
alarms_activated S t s = refl

alarms_all_activated : (S : System) (tasks : List ℕ) (s : State)
    → (all_activated S tasks s).alarms ≡ s.alarms
alarms_all_activated S [] s = refl
alarms_all_activated S (t ∷ ts) s =
    alarms_all_activated S ts (activated S t s) ∙ alarms_activated S t s

alarms_rescheduled : (S : System) (s : State) → (reschedule S s).state.alarms ≡ s.alarms
unfolding reschedule
alarms_rescheduled S s = refl

alarms_begun : (S : System) (mode : ℕ) (arrivals : List Arrival)
    → (run S mode arrivals 0).state.alarms ≡ starting_alarms S mode
unfolding run boot
alarms_begun S mode arrivals =
    alarms_rescheduled S _
    ∙ alarms_all_activated S (starting_tasks S mode)
    (record (still S) { alarms = starting_alarms S mode })

-- an expiry a cycle later
abbrev pub a_cycle_on : Expiry → Expiry
a_cycle_on e = record { count = e.count + e.cycle; cycle = e.cycle }

module _ (S : System) (mode : ℕ) (arrivals : List Arrival) (a : ℕ) where
  -- the expiry with which tick n begins, and how it expires where it is due
  abbrev pub expiry_at : ℕ → Option Expiry
  expiry_at n = expiry (run S mode arrivals n).state a

  abbrev pub expired_at : ℕ → Option Expiry → Option Expiry
  expired_at n e = cond (is_due_at (n / base_of S a) e) (renewed e) e

  abbrev pub Goes : ℕ → Type 0
  Goes n = (run S mode arrivals n).state.over ≡ false

  -- in tick n a call that isn't refused sets the alarm to an expiry
  pub record IsSet (n : ℕ) (call : ServiceCall) (e : Expiry) : Type 0 where
    pub served : IsServed S (executing_in S mode arrivals n) call
    pub sets : SetsTo (counter_of S a) (n / base_of S a) a call e

  -- what holds of the expiry from tick to tick, up to the last
  pub record IsKept (I : ℕ → Option Expiry → Type 0) (last : ℕ) : Type 0 where
    pub off : (n : ℕ) → I n None
    pub boot : I 0 (first_expiry (alarm_start_in S mode a))
    pub expires : (n : ℕ) → n < last → Goes n → I n (expiry_at n)
        → I (suc n) (expired_at n (expiry_at n))
    pub set : (n : ℕ) → n < last → Goes n → (call : ServiceCall) (e : Expiry) → IsSet n call e
        → I (suc n) (Some e)

  module _ (inside : a < length S.alarms) where
    begun : expiry_at 0 ≡ first_expiry (alarm_start_in S mode a)
    begun =
        ap (λ es. slice_index_or es a None) (alarms_begun S mode arrivals)
        ∙ get_or-map (λ (x : Alarm). first_expiry (start_in mode x.autostart)) S.alarms a no_alarm
        None inside

    advanced : (n : ℕ) → Goes n
        → slice_index_or (alarms_advanced S (run S mode arrivals n).state) a None
        ≡ expired_at n (expiry_at n)
    advanced n going =
        let s : State = (run S mode arrivals n).state in
        table_at (λ k. cond (is_due S s k) (renewed (expiry s k)) (expiry s k)) (length S.alarms) a
        None inside
        ∙ ap (λ t. expired_at t (expiry s a))
        (run_tick S mode arrivals n going)

    pub along : (I : ℕ → Option Expiry → Type 0) (last : ℕ) → IsKept I last → (n : ℕ) → n ≤ last
        → Goes n → I n (expiry_at n)
    along I last k zero low going = subst (I 0) (sym begun) k.boot
    along I last k (suc n) low going =
        let before : Goes n = going_before S mode arrivals n going in
        let s : State = (run S mode arrivals n).state in
        let below : n < last = omega (arith, low) in
        let old : I n (expiry_at n) = along I last k n (omega (arith, low)) before in
        subst (λ (x : State). I (suc n) (expiry x a)) (sym (state_more S mode arrivals n before))
        (tick_leaves S a n (I (suc n)) (k.off (suc n)) (arriving arrivals n) s
        (run_tick S mode arrivals n before)
        (subst (I (suc n)) (sym (advanced n before)) (k.expires n below before old))
        (λ call served e sets.
        k.set n below before call e (record { served = served; sets = sets })))

-- Where an alarm expires, it is due, and an alarm of the system.
use Rattle.std.proofs.Common.{ℕ, ◌≡◌, ◌<◌, ◌/◌, true, not, List, length, sym, ◌∙◌, ap}
use Rattle.std.proofs.lemmas.Bool.{and_parts, not-true}
use Rattle.osek_base.specs.declared.arrivals.Arrival.{Arrival}
use Rattle.osek_base.specs.Alarm.{due_alarms, is_due, is_due_at}
use Rattle.osek_base.specs.Lists.{below, is_in}
use Rattle.osek_base.specs.Proper.{IsProper}
use Rattle.osek_base.specs.State.{State}
use Rattle.osek_base.specs.System.{System, alarm}
use Rattle.osek_base.specs.Trace.{run}
use Rattle.law_runs.proofs.RunSteps.{run_tick}
use Rattle.law_future.proofs.Arrivals.{below_low, in_filter}
use Rattle.law_future.proofs.Tables.{known_counter, some_base}
use Rattle.law_alarms.specs.Expiries.{base_of, expires}
use Rattle.law_alarms.proofs.Along.{Goes, expiry_at}

-- what is known of a tick in which an alarm expires
pub record IsExpiring (S : System) (mode : ℕ) (arrivals : List Arrival) (a n : ℕ) : Type 0 where
  pub inside : a < length S.alarms
  pub goes : Goes S mode arrivals a n
  pub due : is_due_at (n / base_of S a) (expiry_at S mode arrivals a n) ≡ true

module _ (S : System) (mode : ℕ) (arrivals : List Arrival) (a n : ℕ) where
  pub expiring : expires S mode arrivals a n ≡ true → IsExpiring S mode arrivals a n
  expiring h =
      let s : State = (run S mode arrivals n).state in
      let both = and_parts (not s.over) (is_in a (due_alarms S s)) h in
      let goes = not-true s.over both.0 in
      let among = and_parts (is_in a (below (length S.alarms))) (is_due S s a)
      (sym (in_filter (is_due S s) a (below (length S.alarms))) ∙ both.1) in
      record {
        inside = below_low (length S.alarms) a among.0;
        goes = goes;
        due = ap (λ t. is_due_at (t / base_of S a) (expiry_at S mode arrivals a n))
            (sym (run_tick S mode arrivals n goes))
            ∙ among.1;
      }

-- a count of an alarm of a proper system has a tick at least
pub some_ticks : (S : System) (a : ℕ) → IsProper S → a < length S.alarms → 0 < base_of S a
some_ticks S a proper inside =
    some_base S (alarm S a).counter proper (known_counter S a proper inside)

-- A service that fails in a tick of a run, by what is kept of the state before it.
use Rattle.std.proofs.Common.{ℕ, ◌≡◌, Bool, true, false, if◌then◌else◌, ◌&&◌, List, Option, Some, None, refl}
use Rattle.std.specs.Prelude.{nat_lt}
use Rattle.std.specs.Option.{option_map}
use Rattle.osek_base.specs.declared.arrivals.Arrival.{Arrival}
use Rattle.osek_base.specs.declared.executed.Executed.{Executed}
use Rattle.osek_base.specs.declared.ids.Owner.{Owner}
use Rattle.osek_base.specs.declared.status.Status.{Status}
use Rattle.osek_base.specs.System.{System}
use Rattle.osek_base.specs.Tick.{status_number}
use Rattle.law_kept.specs.Kept.{Kept}
use Rattle.seen_ticks.specs.Observed.{answered, executed_in, failure_by, failure_of, owner_of, status_of}
use Rattle.law_future.specs.Alike.{kept_after}
use Rattle.law_seen.specs.Seen.{failure_in}
use Rattle.law_seen.specs.Shown.{kept_tick_at}
use Rattle.view_figures.specs.FigureSums.{is_error}
use Rattle.search_peaks.specs.Noting.{fails_by}
use Rattle.law_bounds.proofs.Arrived.{StandFor}

and_true : (b : Bool) → (b && true) ≡ b
and_true true = refl
and_true false = refl

and_false : (b : Bool) → (b && false) ≡ false
and_false true = refl
and_false false = refl

-- a service that fails passes a test of owners exactly where its executor does
module _ (test : Option Owner → Bool) where
  by_status : (e : Executed) (answer : Option Status)
      → (test (Some e.owner) && is_error answer) ≡ fails_by test (failure_by e answer)
  by_status e None = and_false (test (Some e.owner))
  by_status e (Some status) = go (nat_lt 0 (status_number status))
    where
      go : (b : Bool) → (test (Some e.owner) && b)
          ≡ fails_by test
          (if b then Some (record { owner = e.owner; place = e.place; status = status }) else None)
      go true = and_true (test (Some e.owner))
      go false = and_false (test (Some e.owner))

  pub fails_alike : (e : Option Executed)
      → (test (option_map owner_of e) && is_error (answered e)) ≡ fails_by test (failure_of e)
  fails_alike None = and_false (test None)
  fails_alike (Some e) = by_status e (status_of e.outcome)

-- ---- a tick of a run

module _ (S : System) (mode : ℕ) (arrivals : List Arrival) (n : ℕ) (chosen : List ℕ)
    (stand : StandFor S mode arrivals n chosen) where
  abbrev here : Kept
  here = kept_after S mode arrivals n

  pub failure_same : failure_of (kept_tick_at S mode arrivals n).executed ≡ failure_in S chosen here
  unfolding failure_in
  failure_same = λ i. failure_of (executed_in (stand.tick i).events)

-- What a tick of a run shows, by what is kept of the state before it.
use Rattle.std.proofs.Common.{◌≡◌, ℕ, suc, false, List, sym, ap, subst}
use Rattle.std.specs.Prelude.{Option, None, slice_index_or}
use Rattle.osek_base.specs.declared.arrivals.Arrival.{Arrival}
use Rattle.osek_base.specs.Proper.{IsProper}
use Rattle.osek_base.specs.System.{System}
use Rattle.osek_base.specs.Trace.{run}
use Rattle.law_runs.proofs.RunSteps.{going_before}
use Rattle.law_seen.proofs.Shown.{runs_show}
use Rattle.law_figures.specs.Ages.{ages, oldest_age}
use Rattle.law_figures.specs.Holding.{Hold, held_ticks, holding}
use Rattle.law_figures.specs.Labels.{IsAtMost}
use Rattle.law_figures.specs.Pending.{pending}
use Rattle.law_figures.specs.RunFigures.{holder_ticks, label_before, routine_ticks, task_ticks}
use Rattle.law_figures.specs.Seen.{AgesAgree, HoldsAgree, PendingAgrees}
use Rattle.law_figures.specs.Times.{waited}
use Rattle.law_figures.proofs.Seen.{labels_go_by_seen}
use Rattle.law_bounds.specs.RunTicks.{age_at, held_at, run_holder, run_routine, run_tick, waited_at}
use Rattle.law_bounds.proofs.OneLabel.{shown_alike}

module _ (S : System) (mode : ℕ) (arrivals : List Arrival) (proper : IsProper S) where
  abbrev Goes : ℕ → Type 0
  Goes n = (run S mode arrivals n).state.over ≡ false

  earlier : (n : ℕ) → Goes (suc n) → Goes n
  earlier n going = going_before S mode arrivals n going

  pub age_is : (k n : ℕ) → Goes n
      → age_at S mode arrivals k n
      ≡ oldest_age (task_ticks S mode arrivals k n)
      (label_before ages (task_ticks S mode arrivals k) n)
  age_is k =
      shown_alike ages oldest_age (run_tick S mode arrivals k) (task_ticks S mode arrivals k)
      Goes earlier
      (λ n going old. (agree n going old).next)
      (λ n going old. (agree n going old).oldest)
    where
      agree : (n : ℕ) → Goes n → (old : List ℕ)
          → AgesAgree (run_tick S mode arrivals k n) (task_ticks S mode arrivals k n) old
      agree n going old =
          labels_go_by_seen.ages (run_tick S mode arrivals k n) (task_ticks S mode arrivals k n) old
          ((runs_show S mode arrivals n proper going).tasks k)

  pub age_low : (k n m : ℕ) → Goes n
      → IsAtMost m (oldest_age (task_ticks S mode arrivals k n)
      (label_before ages (task_ticks S mode arrivals k) n))
      → IsAtMost m (age_at S mode arrivals k n)
  age_low k n m going low = subst (IsAtMost m) (sym (age_is k n going)) low

  pub waited_is : (k n : ℕ) → Goes n
      → waited_at S mode arrivals k n
      ≡ waited (routine_ticks S mode arrivals k n)
      (label_before pending (routine_ticks S mode arrivals k) n)
  waited_is k =
      shown_alike pending waited (run_routine S mode arrivals k) (routine_ticks S mode arrivals k)
      Goes earlier
      (λ n going age. (agree n going age).next)
      (λ n going age. (agree n going age).waited)
    where
      agree : (n : ℕ) → Goes n → (age : Option ℕ)
          → PendingAgrees (run_routine S mode arrivals k n) (routine_ticks S mode arrivals k n) age
      agree n going age =
          labels_go_by_seen.pending (run_routine S mode arrivals k n)
          (routine_ticks S mode arrivals k n) age
          ((runs_show S mode arrivals n proper going).routines k)

  pub waits_low : (k n m : ℕ) → Goes n
      → IsAtMost m (waited (routine_ticks S mode arrivals k n)
      (label_before pending (routine_ticks S mode arrivals k) n))
      → IsAtMost m (waited_at S mode arrivals k n)
  waits_low k n m going low = subst (IsAtMost m) (sym (waited_is k n going)) low

  pub held_is : (r n : ℕ) → Goes n
      → held_at S mode arrivals r n
      ≡ held_ticks (holder_ticks S mode arrivals r n)
      (label_before holding (holder_ticks S mode arrivals r) n)
  held_is r =
      shown_alike holding held_ticks (run_holder S mode arrivals r) (holder_ticks S mode arrivals r)
      Goes earlier
      (λ n going hold. (agree n going hold).next)
      (λ n going hold. (agree n going hold).held)
    where
      agree : (n : ℕ) → Goes n → (hold : Hold)
          → HoldsAgree (run_holder S mode arrivals r n) (holder_ticks S mode arrivals r n) hold
      agree n going hold =
          labels_go_by_seen.holds (run_holder S mode arrivals r n)
          (holder_ticks S mode arrivals r n) hold
          (ap (λ (xs : List (Option ℕ)). slice_index_or xs r None)
          (runs_show S mode arrivals n proper going).holders)

  pub hold_low : (r n m : ℕ) → Goes n
      → IsAtMost m (held_ticks (holder_ticks S mode arrivals r n)
      (label_before holding (holder_ticks S mode arrivals r) n))
      → IsAtMost m (held_at S mode arrivals r n)
  hold_low r n m going low = subst (IsAtMost m) (sym (held_is r n going)) low

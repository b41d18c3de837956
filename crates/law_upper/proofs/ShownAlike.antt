-- What labels show of the upper part in a tick is the same in runs of systems that agree.
use Rattle.std.proofs.Common.{◌≡◌, ℕ, suc, true, false, List, length, sym, ◌∙◌}
use Rattle.std.specs.Prelude.{Option}
use Rattle.osek_base.specs.declared.arrivals.Arrival.{Arrival}
use Rattle.osek_base.specs.System.{System}
use Rattle.osek_base.specs.Trace.{run}
use Rattle.seen_ticks.specs.Observed.{tick_at}
use Rattle.law_runs.proofs.RunSteps.{going_before}
use Rattle.law_figures.specs.Ages.{ages, oldest_age}
use Rattle.law_figures.specs.Holding.{Hold, held_ticks, holding}
use Rattle.law_figures.specs.Pending.{pending}
use Rattle.law_figures.specs.Seen.{AgesAgree, HoldsAgree, PendingAgrees}
use Rattle.law_figures.specs.Times.{waited}
use Rattle.law_figures.proofs.Seen.{labels_go_by_seen}
use Rattle.law_bounds.specs.RunTicks.{age_at, held_at, run_holder, run_routine, run_tick, waited_at}
use Rattle.law_bounds.proofs.OneLabel.{shown_alike}
use Rattle.law_upper.specs.Above.{IsTheSameResource, IsUpperTask}
use Rattle.law_upper.specs.ShownAbove.{TicksShowTheSame}
use Rattle.law_upper.proofs.Carried.{declared_seen, scheduler_is}

module _ (S B : System) (p : ℕ) (mode : ℕ) (arrivals : List Arrival)
    (shown : TicksShowTheSame S B p) where
  abbrev Goes : ℕ → Type 0
  Goes n = (run S mode arrivals n).state.over ≡ false

  earlier : (n : ℕ) → Goes (suc n) → Goes n
  earlier n going = going_before S mode arrivals n going

  pub ages_same : (t : ℕ) → IsUpperTask S p t → (n : ℕ) → Goes n
      → age_at S mode arrivals t n ≡ age_at B mode arrivals t n
  ages_same t is =
      shown_alike ages oldest_age (run_tick S mode arrivals t) (run_tick B mode arrivals t)
      Goes earlier
      (λ n going old. (agree n going old).next)
      (λ n going old. (agree n going old).oldest)
    where
      agree : (n : ℕ) → Goes n → (old : List ℕ)
          → AgesAgree (run_tick S mode arrivals t n) (run_tick B mode arrivals t n) old
      agree n going old =
          labels_go_by_seen.ages (run_tick S mode arrivals t n) (run_tick B mode arrivals t n) old
          ((shown mode arrivals n going).tasks t is)

  pub waits_same : (i n : ℕ) → Goes n
      → waited_at S mode arrivals i n ≡ waited_at B mode arrivals i n
  waits_same i =
      shown_alike pending waited (run_routine S mode arrivals i) (run_routine B mode arrivals i)
      Goes earlier
      (λ n going age. (agree n going age).next)
      (λ n going age. (agree n going age).waited)
    where
      agree : (n : ℕ) → Goes n → (age : Option ℕ)
          → PendingAgrees (run_routine S mode arrivals i n) (run_routine B mode arrivals i n) age
      agree n going age =
          labels_go_by_seen.pending (run_routine S mode arrivals i n)
          (run_routine B mode arrivals i n) age ((shown mode arrivals n going).routines i)

  holds_alike : (r q : ℕ) → ((n : ℕ) → Goes n
      → (run_holder S mode arrivals r n).holder ≡ (run_holder B mode arrivals q n).holder)
      → (n : ℕ) → Goes n → held_at S mode arrivals r n ≡ held_at B mode arrivals q n
  holds_alike r q same =
      shown_alike holding held_ticks (run_holder S mode arrivals r) (run_holder B mode arrivals q)
      Goes earlier
      (λ n going hold. (agree n going hold).next)
      (λ n going hold. (agree n going hold).held)
    where
      agree : (n : ℕ) → Goes n → (hold : Hold)
          → HoldsAgree (run_holder S mode arrivals r n) (run_holder B mode arrivals q n) hold
      agree n going hold =
          labels_go_by_seen.holds (run_holder S mode arrivals r n) (run_holder B mode arrivals q n)
          hold (same n going)

  pub holds_same : (r q : ℕ) → IsTheSameResource S B p r q → (n : ℕ) → Goes n
      → held_at S mode arrivals r n ≡ held_at B mode arrivals q n
  holds_same r q one =
      holds_alike r q
      (λ n going. declared_seen S (tick_at S mode arrivals n).at r one.known
      ∙ (shown mode arrivals n going).holders r q one
      ∙ sym (declared_seen B (tick_at B mode arrivals n).at q one.known_there))

  pub scheduler_same : S.use_res_scheduler ≡ true → B.use_res_scheduler ≡ true → (n : ℕ) → Goes n
      → held_at S mode arrivals (length S.resources) n
      ≡ held_at B mode arrivals (length B.resources) n
  scheduler_same used there =
      holds_alike (length S.resources) (length B.resources)
      (λ n going. scheduler_is S (tick_at S mode arrivals n).at used
      ∙ (shown mode arrivals n going).scheduler
      ∙ sym (scheduler_is B (tick_at B mode arrivals n).at there))

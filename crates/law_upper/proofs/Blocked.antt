-- For how many ticks an upper task has been blocked is the same in runs of systems that agree.
use Rattle.std.proofs.Common.{◌≡◌, ℕ, zero, suc, ◌+◌, false, cond, ◌||◌, List, refl, ◌∙◌, ap, ap₂}
use Rattle.osek_base.specs.declared.arrivals.Arrival.{Arrival}
use Rattle.osek_base.specs.System.{System}
use Rattle.osek_base.specs.Trace.{run}
use Rattle.seen_ticks.specs.declared.task_seen.TaskSeen.{TaskSeen}
use Rattle.law_runs.proofs.RunSteps.{going_before}
use Rattle.law_figures.specs.Blocking.{blocked_in, blocked_next, blocking}
use Rattle.law_figures.specs.RunFigures.{label_before}
use Rattle.law_bounds.specs.RunTicks.{blocked_at, run_tick}
use Rattle.law_upper.specs.Above.{IsUpperTask}
use Rattle.law_upper.specs.ShownAbove.{TicksShowTheSame}

module _ (S B : System) (p : ℕ) (mode : ℕ) (arrivals : List Arrival)
    (shown : TicksShowTheSame S B p) (t : ℕ) (is : IsUpperTask S p t) where
  -- with the same label before a tick
  in_same : (n : ℕ) → (run S mode arrivals n).state.over ≡ false → (m : ℕ)
      → blocked_in (run_tick S mode arrivals t n) m ≡ blocked_in (run_tick B mode arrivals t n) m
  in_same n going m = ap (λ b. m + cond b 1 0) ((shown mode arrivals n going).blocked t is)

  next_same : (n : ℕ) → (run S mode arrivals n).state.over ≡ false → (m : ℕ)
      → blocked_next (run_tick S mode arrivals t n) m
      ≡ blocked_next (run_tick B mode arrivals t n) m
  next_same n going m =
      ap₂ (λ (x : TaskSeen) k. cond (x.ended || x.waits) 0 k)
      ((shown mode arrivals n going).tasks t is) (in_same n going m)

  before_same : (n : ℕ) → (run S mode arrivals n).state.over ≡ false
      → label_before blocking (run_tick S mode arrivals t) n
      ≡ label_before blocking (run_tick B mode arrivals t) n
  before_same zero going = refl
  before_same (suc n) later =
      let going : (run S mode arrivals n).state.over ≡ false =
      going_before S mode arrivals n later in
      next_same n going (label_before blocking (run_tick S mode arrivals t) n)
      ∙ ap (blocked_next (run_tick B mode arrivals t n)) (before_same n going)

  pub blocked_at_same : (n : ℕ) → (run S mode arrivals n).state.over ≡ false
      → blocked_at S mode arrivals t n ≡ blocked_at B mode arrivals t n
  blocked_at_same n going =
      in_same n going (label_before blocking (run_tick S mode arrivals t) n)
      ∙ ap (blocked_in (run_tick B mode arrivals t n)) (before_same n going)

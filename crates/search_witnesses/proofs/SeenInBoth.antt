-- Of two runs in whose ticks a task has as many jobs and is blocked for as long, observations show
-- as many jobs at most and as many ticks at most.
use Rattle.std.proofs.Common.{◌≡◌, ℕ, zero, suc, ◌<◌, false, List, [], ◌∷◌, length, max, refl, sym, ◌∙◌, ap, ap₂}
use Rattle.osek_base.specs.declared.arrivals.Arrival.{Arrival}
use Rattle.osek_base.specs.System.{System}
use Rattle.osek_base.specs.Trace.{run}
use Rattle.seen_ticks.specs.declared.observation.Observation.{Observation}
use Rattle.seen_ticks.specs.declared.task_seen.TaskSeen.{TaskSeen}
use Rattle.seen_ticks.specs.Observed.{task_seen as seen_at, tick_at}
use Rattle.view_figures.specs.Counts.{capped}
use Rattle.view_figures.specs.FigureSums.{levels_of}
use Rattle.law_figures.specs.RunFigures.{AreTicksOf}
use Rattle.law_bounds.specs.RunTicks.{blocked_at}
use Rattle.law_bounds.specs.Showing.{most_blocked, most_jobs}
use Rattle.law_bounds.proofs.Showing.{blocked_is, seen_is}

module _ (P S : System) (mode : ℕ) (arrivals : List Arrival) (k : ℕ)
    (known : k < length P.tasks) (known_there : k < length S.tasks) where
  pub jobs_same : ((n : ℕ) → (run P mode arrivals n).state.over ≡ false
      → (seen_at P (tick_at P mode arrivals n) k).jobs
      ≡ (seen_at S (tick_at S mode arrivals n) k).jobs)
      → (n : ℕ) (seen others : List Observation) → AreTicksOf P mode arrivals n seen
      → AreTicksOf S mode arrivals n others → most_jobs k seen ≡ most_jobs k others
  jobs_same same zero [] [] are there = refl
  jobs_same same zero (o ∷ before) others are there = absurd are
  jobs_same same zero [] (u ∷ earlier) are there = absurd there
  jobs_same same (suc n) [] others are there = absurd are
  jobs_same same (suc n) (o ∷ before) [] are there = absurd there
  jobs_same same (suc n) (o ∷ before) (u ∷ earlier) are there =
      ap₂ max
      (ap (λ (x : TaskSeen). x.jobs) (seen_is P mode arrivals k known n o are.0)
      ∙ same n are.0.going
      ∙ sym (ap (λ (x : TaskSeen). x.jobs) (seen_is S mode arrivals k known_there n u there.0)))
      (jobs_same same n before earlier are.1 there.1)

  pub most_same : ((n : ℕ) → (run P mode arrivals n).state.over ≡ false
      → blocked_at P mode arrivals k n ≡ blocked_at S mode arrivals k n)
      → (n : ℕ) (seen others : List Observation) → AreTicksOf P mode arrivals n seen
      → AreTicksOf S mode arrivals n others
      → most_blocked (levels_of P) k seen ≡ most_blocked (levels_of S) k others
  most_same same zero [] [] are there = refl
  most_same same zero (o ∷ before) others are there = absurd are
  most_same same zero [] (u ∷ earlier) are there = absurd there
  most_same same (suc n) [] others are there = absurd are
  most_same same (suc n) (o ∷ before) [] are there = absurd there
  most_same same (suc n) (o ∷ before) (u ∷ earlier) are there =
      ap₂ (λ m rest. max (capped m) rest)
      (blocked_is P mode arrivals k known n o before are.0 are.1
      ∙ same n are.0.going
      ∙ sym (blocked_is S mode arrivals k known_there n u earlier there.0 there.1))
      (most_same same n before earlier are.1 there.1)

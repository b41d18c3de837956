-- No job of a task is older than its greatest response, and it has no more jobs than it may.
use Rattle.std.proofs.Common.{◌≡◌, ℕ, suc, ◌+◌, ◌<◌, ◌≤◌, false, List, ◌∷◌, length, refl, subst, arith}
use Rattle.std.specs.Prelude.{Option, Some, None, ◌==◌, true}
use Rattle.std.specs.List.{AllByRecursion}
use Rattle.osek_base.specs.declared.arrivals.Arrival.{Arrival}
use Rattle.osek_base.specs.Proper.{IsProper}
use Rattle.osek_base.specs.State.{JobId}
use Rattle.osek_base.specs.System.{System, activation_of}
use Rattle.osek_base.specs.Trace.{run}
use Rattle.arrival_rules.specs.declared.rule.ArrivalRule.{ArrivalRule}
use Rattle.arrival_rules.specs.Rules.{KeepRules}
use Rattle.law_runs.proofs.Foremost.{equal}
use Rattle.law_blockers.specs.Steps.{step_at}
use Rattle.seen_ticks.specs.Observed.{task_seen, tick_at}
use Rattle.law_figures.specs.Ages.{ages, oldest_age}
use Rattle.law_figures.specs.Labels.{IsAtMost}
use Rattle.law_figures.specs.RunFigures.{label_before, task_ticks}
use Rattle.law_jobs.specs.Ending.{IsOldestJob}
use Rattle.law_jobs.proofs.Ending.{oldest_is_job}
use Rattle.law_jobs.proofs.Members.{each_of}
use Rattle.law_costs.proofs.InTicks.{at_form}
use Rattle.law_bounds.specs.Ending.{EndsWithin}
use Rattle.law_bounds.specs.RunTicks.{age_at}
use Rattle.law_bounds.proofs.RunTicks.{age_low}

module _ (S : System) (mode : ℕ) (arrivals : List Arrival) (proper : IsProper S) (n k : ℕ)
    (going : (run S mode arrivals n).state.over ≡ false) (known : k < length S.tasks) where
  module _ (rules : List ArrivalRule) (keep : KeepRules S rules arrivals) (most : ℕ)
      (ends : EndsWithin S mode rules most k) where
    abbrev shown : Option ℕ
    shown =
        oldest_age (task_ticks S mode arrivals k n)
        (label_before ages (task_ticks S mode arrivals k) n)

    oldest_low : (age : ℕ) → IsOldestJob S mode arrivals n k age → age ≤ most
    oldest_low age it =
        let of : AllByRecursion (λ (i : JobId). (i.task == k) ≡ true) (it.job ∷ _) =
        subst (AllByRecursion (λ (i : JobId). (i.task == k) ≡ true)) it.first
        (each_of k (step_at S mode arrivals n).executing.jobs) in
        let soon : n < it.old.since + most =
        ends arrivals n it.old.since it.job keep going (equal it.job.task k of.0) it.old.ready in
        let sum : age + it.old.since ≡ suc n = it.old.both in
        omega (arith, soon, sum)

    pub response_low : IsAtMost most (age_at S mode arrivals k n)
    response_low = age_low S mode arrivals proper k n most going (go shown refl)
      where
        go : (o : Option ℕ) → shown ≡ o → IsAtMost most o
        go None is = tt
        go (Some age) is =
            oldest_low age (oldest_is_job S mode arrivals n k age proper going known is)

  pub jobs_low : (task_seen S (tick_at S mode arrivals n) k).jobs ≤ activation_of S k
  jobs_low = (at_form S proper mode arrivals n going).formed.limited k

-- Services that fail are told, and so that their owner has one.
use Rattle.std.proofs.Common.{◌≡◌, ℕ, ◌≤◌, Bool, true, false, ◌&&◌, refl, sym, ap, subst, arith}
use Rattle.std.specs.Prelude.{Option, Some, None, Contains, IfSome}
use Rattle.std.specs.Option.{option_map}
use Rattle.osek_base.specs.declared.executed.Executed.{Executed}
use Rattle.osek_base.specs.declared.ids.Owner.{Owner}
use Rattle.osek_base.specs.System.{System}
use Rattle.law_runs.proofs.Foremost.{equal}
use Rattle.seen_ticks.specs.declared.failures.Failure.{Failure}
use Rattle.seen_ticks.specs.Observed.{answered, failure_of, owner_of}
use Rattle.view_figures.specs.FigureSums.{is_error, is_routine, is_task}
use Rattle.view_measures.specs.declared.measure.Measure.{Measure}
use Rattle.view_measures.specs.Measures.{figure}
use Rattle.search_peaks.specs.Noting.{fails_by}
use Rattle.search_peaks.specs.Peaks.{Peaks, told}
use Rattle.law_figures.specs.Counts.{one_if}
use Rattle.law_bounds.proofs.Failing.{fails_alike}
use Rattle.law_nodes.specs.Nodes.{Table}
use Rattle.law_analysis.specs.Told.{AreRefusalsTold, IsRefusalTold, errors_of}
use Rattle.law_analysis.proofs.Refused.{AreToldAt, IsToldAt}

module _ (S : System) (table : Table) (peaks : Peaks) (refusals : AreRefusalsTold S table peaks)
  where
    is_told : (f : Failure) (at : IsToldAt S table f) → IsRefusalTold peaks at.node f.status
    is_told f at = refusals at.node at.call f.status at.there at.calls at.refused

    one_failure : (f : Failure) → IsToldAt S table f → Contains peaks.failures f
    one_failure f at =
        let owner = at.owner in
        let place = at.place in
        subst (Contains peaks.failures)
        (λ i. record { owner = owner i; place = place i; status = f.status })
        (is_told f at).service

    one_owner : (f : Failure) → IsToldAt S table f → 1 ≤ errors_of f.owner peaks
    one_owner f at = subst (λ (w : Owner). 1 ≤ errors_of w peaks) at.owner (is_told f at).owner

    pub failures_told : (e : Option Executed) → AreToldAt S table e
        → IfSome (failure_of e) (λ x. Contains peaks.failures x)
    failures_told e all = go (failure_of e) all
      where
        go : (o : Option Failure) → IfSome o (IsToldAt S table)
            → IfSome o (λ x. Contains peaks.failures x)
        go None at = tt
        go (Some f) at = one_failure f at

    -- of owners that pass a test at most as many fail as are told, where one that passes is told
    module _ (test : Option Owner → Bool) (most : ℕ)
        (low : (w : Owner) → test (Some w) ≡ true → errors_of w peaks ≤ most) where
      few_fail : (o : Option Failure) → IfSome o (IsToldAt S table)
          → one_if (fails_by test o) ≤ most
      few_fail None at = omega arith
      few_fail (Some f) at = go (test (Some f.owner)) refl
        where
          go : (b : Bool) → test (Some f.owner) ≡ b → one_if b ≤ most
          go false is = omega arith
          go true is =
              let some = one_owner f at in
              let few = low f.owner is in
              omega (arith, some, few)

      pub fails_low : (e : Option Executed) → AreToldAt S table e
          → one_if (test (option_map owner_of e) && is_error (answered e)) ≤ most
      fails_low e all =
          subst (λ b. one_if b ≤ most) (sym (fails_alike test e)) (few_fail (failure_of e) all)

-- ---- the errors of whom

pub task_low : (peaks : Peaks) (k : ℕ) (w : Owner) → is_task (Some w) k ≡ true
    → errors_of w peaks ≤ told peaks (figure Measure.Errors k)
task_low peaks k (Owner.Task t) is =
    let same : told peaks (figure Measure.Errors t) ≡ told peaks (figure Measure.Errors k) =
    ap (λ n. told peaks (figure Measure.Errors n)) (equal t k is) in
    omega (arith, same)
task_low peaks k (Owner.Routine i) is = absurd (grind (arith, is))

pub routine_low : (peaks : Peaks) (k : ℕ) (w : Owner) → is_routine (Some w) k ≡ true
    → errors_of w peaks ≤ told peaks (figure Measure.RoutineErrors k)
routine_low peaks k (Owner.Task t) is = absurd (grind (arith, is))
routine_low peaks k (Owner.Routine i) is =
    let same : told peaks (figure Measure.RoutineErrors i)
    ≡ told peaks (figure Measure.RoutineErrors k) =
    ap (λ n. told peaks (figure Measure.RoutineErrors n)) (equal i k is) in
    omega (arith, same)

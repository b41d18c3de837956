-- What is counted to come is what the law counts.
use Rattle.std.proofs.Common.{ℕ, zero, suc, ◌+◌, ◌*◌, ◌≡◌, ◌<◌, ◌≤◌, List, [], ◌∷◌, length, refl, sym, ◌∙◌, ap, arith, not-suc-le-zero, le_of_suc-le-suc}
use Rattle.std.specs.List.{AllByRecursion, sum_by}
use Rattle.std.proofs.lemmas.Bool.{leb-true}
use Rattle.osek_base.specs.Lists.{below}
use Rattle.osek_base.specs.System.{System}
use Rattle.arrival_rules.specs.declared.rule.ArrivalRule.{ArrivalRule}
use Rattle.arrival_rules.specs.Rules.{rule_at}
use Rattle.law_windows.specs.Analysis.{AreAlwaysEnough, ArePeriodic, most_cost}
use Rattle.law_windows.specs.Expiring.{most_expiries}
use Rattle.analysis_bounds.specs.declared.level.Level.{Level}
use Rattle.analysis_bounds.specs.declared.pacing.Pace.{Pace}
use Rattle.analysis_bounds.specs.Coming.{AreAllPeriodic, IsEnoughFor, arrivals_cost, expiries_cost}
use Rattle.analysis_bounds.specs.Levels.{costs_of, numbered}
use Rattle.analysis_bounds.specs.Pacing.{ArePaces, most_at, pace_in}
use Rattle.analysis_bounds.proofs.SumLemmas.{sum_same}

periodic : (rules : List ArrivalRule) → AreAllPeriodic rules → ArePeriodic rules
periodic [] all n low = absurd (not-suc-le-zero low)
periodic (rule ∷ rules) all zero low = all.0
periodic (rule ∷ rules) all (suc n) low = periodic rules all.1 n (le_of_suc-le-suc low)

pub enough_of : (S : System) (mode : ℕ) (rules : List ArrivalRule) (level : Level) (least : List ℕ)
    (paces : List Pace) (most more : ℕ) → ArePaces S mode least paces → AreAllPeriodic rules
    → more
    ≡ arrivals_cost rules level most (length S.routines)
    + expiries_cost paces level most (length S.alarms)
    → IsEnoughFor level more most
    → AreAlwaysEnough S rules (costs_of level) (most_expiries S mode (numbered least) most) most
enough_of S mode rules level least paces most more are all is enough = record {
  periodic = periodic rules all;
  some = enough.some;
  at_boot =
      (let fits = leb-true (level.at_boot + more) most enough.boot in
      omega (arith, fits, same));
  at_begin =
      (let fits = leb-true (level.at_begin + more) most enough.begin in
      omega (arith, fits, same));
}
  where
    same : more
        ≡ most_cost S rules (costs_of level) (most_expiries S mode (numbered least) most) most
    same =
        is
        ∙ ap (λ n. arrivals_cost rules level most (length S.routines) + n)
        (sum_same (λ a. most_at (pace_in paces a) most * numbered level.expiries.items a)
        (λ a. most_expiries S mode (numbered least) most a * numbered level.expiries.items a)
        (length S.alarms)
        (λ a low. ap (λ n. n * numbered level.expiries.items a) (are a most low)))

-- As many ticks as are enough for all that can come bound each window, and what lies in it.
use Rattle.std.proofs.Common.{ℕ, zero, suc, ◌≤◌, ◌+◌, List, sym, subst, arith}
use Rattle.osek_base.specs.declared.arrivals.Arrival.{Arrival}
use Rattle.osek_base.specs.System.{System, priority_of}
use Rattle.arrival_rules.specs.declared.rule.ArrivalRule.{ArrivalRule}
use Rattle.arrival_rules.specs.Rules.{KeepRules}
use Rattle.law_alarms.specs.Expiries.{expiries}
use Rattle.law_windows.specs.Windows.{WindowsEndWithin}
use Rattle.law_windows.specs.Coming.{Costs, ExpireAtMost, arrivals_in, first_cost}
use Rattle.law_windows.specs.Potential.{AreEnough}
use Rattle.law_windows.specs.Responses.{RespondWithin}
use Rattle.law_windows.specs.Analysis.{AnalysisBoundsResponses, AreAlwaysEnough, IsCounted, LittleComes, most_cost, most_of}
use Rattle.law_windows.proofs.Arrivals.{arrivals_are_few}
use Rattle.law_windows.proofs.Losses.{soon_started_are_not_lost}
use Rattle.law_windows.proofs.Responses.{responses_lie_in_windows}
use Rattle.law_windows.proofs.Short.{windows_are_short}
use Rattle.law_windows.proofs.Sums.{came_is, cost_less}

pub little_comes : LittleComes
little_comes S mode rules arrivals costs often from count periodic keep few =
    let is = came_is S mode arrivals costs from count in
    let less =
    cost_less S costs (λ i. arrivals_in arrivals i from count)
    (λ a. expiries S mode arrivals a from count) (λ i. most_of rules i count) often
    (λ i known. arrivals_are_few S rules arrivals i from count keep periodic)
    (λ a known dear. few a from known dear) in
    omega (arith, is, less)

module _ (S : System) (mode : ℕ) (rules : List ArrivalRule) (p : ℕ) (costs : Costs) (often : ℕ → ℕ)
    (most : ℕ) (enough : AreAlwaysEnough S rules costs often most) where
  begins_with : (first : ℕ)
      → first_cost costs first + most_cost S rules costs often most ≤ most
  begins_with zero = enough.at_boot
  begins_with (suc n) = enough.at_begin

  are_enough : (arrivals : List Arrival) → KeepRules S rules arrivals
      → ExpireAtMost S mode arrivals costs often most → (first : ℕ)
      → AreEnough S mode arrivals costs first most
  are_enough arrivals keep few first =
      let come =
      little_comes S mode rules arrivals costs often first most enough.periodic keep few in
      let whole = begins_with first in
      omega (arith, come, whole)

  windows_within : (arrivals : List Arrival) → KeepRules S rules arrivals
      → IsCounted S mode arrivals p costs often most → WindowsEndWithin S mode arrivals p most
  windows_within arrivals keep counted first n window =
      windows_are_short S mode arrivals p costs counted.left first n most counted.potential window
      enough.some (are_enough arrivals keep counted.few first)

pub analysis_bounds_responses : AnalysisBoundsResponses
analysis_bounds_responses S mode rules p costs often most enough counted = record {
  windows = windows;
  responses = responses;
  tasks = λ k high arrivals n since job keep going of ready.
      (responses arrivals keep).jobs n since job going
      (subst (λ t. p ≤ priority_of S t) (sym of) high) ready;
  losses = λ arrivals n keep known level apart.
      soon_started_are_not_lost S mode rules arrivals p most n keep (responses arrivals keep)
      known level apart;
}
  where
    windows : (arrivals : List Arrival) → KeepRules S rules arrivals
        → WindowsEndWithin S mode arrivals p most
    windows arrivals keep =
        windows_within S mode rules p costs often most enough arrivals keep
        (counted arrivals keep)

    responses : (arrivals : List Arrival) → KeepRules S rules arrivals
        → RespondWithin S mode arrivals p most
    responses arrivals keep =
        responses_lie_in_windows S mode arrivals p most (windows arrivals keep)

-- OSEK/VDX OS: interrupt processing, category 2. A bound of all windows of a level, by one
-- inequality: whatever interrupts come that keep rules.
use Rattle.std.specs.Prelude.{ℕ, ◌+◌, ◌-◌, ◌≡◌, ◌==◌, ◌<◌, ◌≤◌, if◌then◌else◌, min, true, List, [], ◌∷◌, length}
use Rattle.osek_base.specs.declared.arrivals.Arrival.{Arrival}
use Rattle.osek_base.specs.System.{System, priority_of}
use Rattle.arrival_rules.specs.declared.rule.ArrivalRule.{ArrivalRule}
use Rattle.arrival_rules.specs.Rules.{KeepRules, rule_at}
use Rattle.law_bounds.specs.Ending.{EndsWithin}
use Rattle.law_alarms.specs.Spaced.{most_in}
use Rattle.law_windows.specs.Windows.{WindowsEndWithin}
use Rattle.law_windows.specs.Coming.{Costs, ExpireAtMost, arrivals_in, came, cost_of}
use Rattle.law_windows.specs.Potential.{IsPotential}
use Rattle.law_windows.specs.Responses.{RespondWithin}
use Rattle.law_windows.specs.Losses.{KeepsApart, NoneIsLost}
use Rattle.law_windows.specs.Work.{goes_at}

-- ---- what comes

-- each rule has a period of a tick, or more
abbrev pub ArePeriodic : List ArrivalRule → Type 0
ArePeriodic rules = (n : ℕ) → n < length rules → 1 ≤ (rule_at rules n).period

-- how many of its interrupts a rule lets come in so many ticks in a row
abbrev pub most_by : ArrivalRule → ℕ → ℕ
most_by rule count =
    if rule.slack == 0 then 0 else most_in rule.period (count + rule.slack - 1)

-- and how many of a routine all rules let come: one a tick at most
abbrev pub most_of : List ArrivalRule → ℕ → ℕ → ℕ
most_of [] i count = count
most_of (rule ∷ rules) i count =
    if rule.routine == i then min (most_by rule count) (most_of rules i count)
    else most_of rules i count

-- where interrupts keep rules, no more come
abbrev pub ArrivalsAreFew : Type 0
ArrivalsAreFew =
    (S : System) (rules : List ArrivalRule) (arrivals : List Arrival) (i from count : ℕ)
    → KeepRules S rules arrivals → ArePeriodic rules
    → arrivals_in arrivals i from count ≤ most_of rules i count

-- at most so much comes in so many ticks in a row, where each alarm expires so often at most
abbrev pub most_cost : System → List ArrivalRule → Costs → (ℕ → ℕ) → ℕ → ℕ
most_cost S rules costs expiries count =
    cost_of S costs (λ i. most_of rules i count) expiries

abbrev pub LittleComes : Type 0
LittleComes =
    (S : System) (mode : ℕ) (rules : List ArrivalRule) (arrivals : List Arrival) (costs : Costs)
    (expiries : ℕ → ℕ) (from count : ℕ) → ArePeriodic rules → KeepRules S rules arrivals
    → ExpireAtMost S mode arrivals costs expiries count
    → came S mode arrivals costs from count ≤ most_cost S rules costs expiries count

-- ---- the analysis

-- so many ticks are enough for each window: for what may be left where it begins, with the run or
-- later, and for all that can come in them
pub record AreAlwaysEnough (S : System) (rules : List ArrivalRule) (costs : Costs) (expiries : ℕ → ℕ)
    (most : ℕ) : Type 0 where
  pub periodic : ArePeriodic rules
  pub some : 1 ≤ most
  pub at_boot : costs.at_boot + most_cost S rules costs expiries most ≤ most
  pub at_begin : costs.at_begin + most_cost S rules costs expiries most ≤ most

-- what is counted holds in a run: by some potential, and of its alarms
pub record IsCounted (S : System) (mode : ℕ) (arrivals : List Arrival) (p : ℕ) (costs : Costs)
    (expiries : ℕ → ℕ) (most : ℕ) : Type 0 where
  pub left : ℕ → ℕ
  pub potential : IsPotential S mode arrivals p costs left
  pub few : ExpireAtMost S mode arrivals costs expiries most

-- whatever arrives that keeps the rules, no window of the level has more ticks, and all that
-- windows bound is bounded
pub record IsBoundOf (S : System) (mode : ℕ) (rules : List ArrivalRule) (p most : ℕ) : Type 0 where
  pub windows : (arrivals : List Arrival) → KeepRules S rules arrivals
      → WindowsEndWithin S mode arrivals p most
  pub responses : (arrivals : List Arrival) → KeepRules S rules arrivals
      → RespondWithin S mode arrivals p most
  pub tasks : (k : ℕ) → p ≤ priority_of S k → EndsWithin S mode rules most k
  -- no interrupt is lost of a routine of the level whose interrupts a rule keeps as many ticks
  -- apart, or more
  pub losses : (arrivals : List Arrival) (n : ℕ) → KeepRules S rules arrivals
      → (rule_at rules n).routine < length S.routines
      → goes_at S p (rule_at rules n).routine ≡ true → KeepsApart (rule_at rules n) most
      → NoneIsLost S mode arrivals (rule_at rules n).routine

-- the law: where what is counted holds in each such run, as many ticks as are enough are a bound
abbrev pub AnalysisBoundsResponses : Type 0
AnalysisBoundsResponses =
    (S : System) (mode : ℕ) (rules : List ArrivalRule) (p : ℕ) (costs : Costs) (expiries : ℕ → ℕ)
    (most : ℕ) → AreAlwaysEnough S rules costs expiries most
    → ((arrivals : List Arrival) → KeepRules S rules arrivals
    → IsCounted S mode arrivals p costs expiries most)
    → IsBoundOf S mode rules p most

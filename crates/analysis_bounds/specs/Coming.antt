-- What can come in some ticks in a row, as code counts it.
use Rattle.std.specs.Prelude.{ℕ, ◌+◌, ◌*◌, ◌≡◌, ◌≤◌, true, nat_le, List}
use Rattle.std.specs.List.{AllByRecursion, sum_by}
use Rattle.osek_base.specs.Lists.{below}
use Rattle.arrival_rules.specs.declared.rule.ArrivalRule.{ArrivalRule}
use Rattle.law_windows.specs.Analysis.{most_of}
use Rattle.analysis_bounds.specs.declared.level.Level.{Level}
use Rattle.analysis_bounds.specs.declared.pacing.Pace.{Pace}
use Rattle.analysis_bounds.specs.Levels.{numbered}
use Rattle.analysis_bounds.specs.Pacing.{most_at, pace_in}

-- each rule has a period
abbrev pub AreAllPeriodic : List ArrivalRule → Type 0
AreAllPeriodic rules = AllByRecursion (λ (rule : ArrivalRule). 1 ≤ rule.period) rules

-- interrupts of the first routines
abbrev pub arrivals_cost : List ArrivalRule → Level → ℕ → ℕ → ℕ
arrivals_cost rules level count routines =
    sum_by (λ i. most_of rules i count * numbered level.arrivals.items i) (below routines)

-- and expiries of the first alarms
abbrev pub expiries_cost : List Pace → Level → ℕ → ℕ → ℕ
expiries_cost paces level count alarms =
    sum_by (λ a. most_at (pace_in paces a) count * numbered level.expiries.items a) (below alarms)

-- so many ticks are enough for what may be left where a window begins and for what comes
pub record IsEnoughFor (level : Level) (more most : ℕ) : Type 0 where
  pub some : 1 ≤ most
  pub boot : nat_le (level.at_boot + more) most ≡ true
  pub begin : nat_le (level.at_begin + more) most ≡ true

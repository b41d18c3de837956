-- Runs by which a task can be kept from ending.
use Rattle.std.specs.Prelude.{ℕ, ◌<◌, List}
use Rattle.std.specs.List.{AllByRecursion}
use Rattle.osek_base.specs.declared.arrivals.Arrival.{Arrival}
use Rattle.osek_base.specs.System.{System}
use Rattle.arrival_rules.specs.declared.rule.ArrivalRule.{ArrivalRule}
use Rattle.law_bounds.specs.Unending.{NeedNotEnd}
use Rattle.law_bounds.specs.Lassos.{GoesOn}
use Rattle.search_witnesses.specs.declared.endless.Endless.{Endless}
use Rattle.search_witnesses.specs.Listed.{IsKeptList}

-- a job of the task can be kept from ending for as many ticks as one likes, and so: the arrivals,
-- which are a list that keeps the rules, come before a tick, and those from an earlier one on
-- come again and again
pub record IsEndless (S : System) (mode : ℕ) (rules : List ArrivalRule) (k : ℕ)
    (e : Endless) : Type 0 where
  pub ever : NeedNotEnd S mode rules k
  pub arrivals : IsKeptList S rules e.arrivals
  pub less : e.from < e.until
  pub before : AllByRecursion (λ (a : Arrival). a.tick < e.until) e.arrivals
  pub goes_on : GoesOn S mode rules e.arrivals e.from e.until k

-- Tasks that can be kept from ending.
use Rattle.std.specs.Prelude.{ℕ, ◌+◌, ◌≡◌, ◌<◌, ◌≤◌, false, List}
use Rattle.osek_base.specs.declared.arrivals.Arrival.{Arrival}
use Rattle.osek_base.specs.System.{System}
use Rattle.osek_base.specs.Trace.{arriving, run}
use Rattle.arrival_rules.specs.declared.rule.ArrivalRule.{ArrivalRule}
use Rattle.law_future.specs.Alike.{kept_after}
use Rattle.law_seen.specs.Seen.{seen_in}
use Rattle.view_figures.specs.declared.task_tick.TaskTick.{TaskTick}
use Rattle.view_figures.specs.ResponseSums.{standing}
use Rattle.view_figures.specs.StateSums.{leaves}
use Rattle.search_labels.specs.Ticks.{task_tick}
use Rattle.arrival_rules.specs.Rules.{KeepRules}

-- what is seen of a task in tick t of a run
abbrev pub tick_seen : System → ℕ → List Arrival → ℕ → ℕ → TaskTick
tick_seen S mode arrivals t k =
    task_tick (seen_in S (arriving arrivals t) (kept_after S mode arrivals t)) k

-- the run isn't over before tick t, and in it a job of the task stands ready or runs, and the
-- oldest neither ends nor begins to wait
pub record Stands (S : System) (mode : ℕ) (arrivals : List Arrival) (t k : ℕ) : Type 0 where
  pub going : (run S mode arrivals t).state.over ≡ false
  pub stands : 1 ≤ standing (tick_seen S mode arrivals t k)
  pub stays : leaves (tick_seen S mode arrivals t k) ≡ false

-- in each tick from one on and before another
abbrev pub StandsBetween : System → ℕ → List Arrival → ℕ → ℕ → ℕ → Type 0
StandsBetween S mode arrivals from until k =
    (t : ℕ) → from ≤ t → t < until → Stands S mode arrivals t k

-- in some run whose interrupts keep the rules, from some tick on, one job of the task stands
-- for so many ticks and doesn't end
pub record StandsSoLong (S : System) (mode : ℕ) (rules : List ArrivalRule) (k count : ℕ) : Type 0 where
  pub arrivals : List Arrival
  pub from : ℕ
  pub keep : KeepRules S rules arrivals
  pub stands : StandsBetween S mode arrivals from (from + count) k

-- for as many ticks as one likes
abbrev pub NeedNotEnd : System → ℕ → List ArrivalRule → ℕ → Type 0
NeedNotEnd S mode rules k = (count : ℕ) → StandsSoLong S mode rules k count

-- Runs that come twice to one state while a job stands, and that they can be gone on without end.
use Rattle.std.specs.Prelude.{ℕ, zero, suc, ◌+◌, ◌*◌, ◌-◌, ◌≡◌, ◌<◌, ◌≤◌, List, ◌++◌, map, nat_le}
use Rattle.std.specs.List.{AllByRecursion, filter}
use Rattle.osek_base.specs.declared.arrivals.Arrival.{Arrival}
use Rattle.osek_base.specs.Proper.{IsProper}
use Rattle.osek_base.specs.System.{System}
use Rattle.arrival_rules.specs.declared.rule.ArrivalRule.{ArrivalRule}
use Rattle.law_future.specs.Need.{Need, Suffices}
use Rattle.law_future.specs.Alike.{kept_after}
use Rattle.search_keys.specs.InRange.{NeedsOwnWords}
use Rattle.search_keys.specs.Key.{key}
use Rattle.arrival_rules.specs.Rules.{KeepRules, comings, rule_at}
use Rattle.law_bounds.specs.Unending.{NeedNotEnd, StandsBetween}

-- an arrival so many ticks later
abbrev pub later : ℕ → Arrival → Arrival
later ticks a = record { tick = a.tick + ticks; routine = a.routine }

-- the arrivals from a tick on, each so many ticks later
abbrev pub repeated : ℕ → ℕ → List Arrival → List Arrival
repeated from ticks arrivals =
    map (later ticks) (filter (λ (a : Arrival). nat_le from a.tick) arrivals)

-- arrivals before a tick, and behind them those from an earlier one on once more
abbrev pub again : ℕ → ℕ → List Arrival → List Arrival
again from until arrivals = arrivals ++ repeated from (until - from) arrivals

-- and those so many times more, each time behind the last
abbrev pub rounds : ℕ → ℕ → ℕ → List Arrival → List Arrival
rounds zero from until arrivals = arrivals
rounds (suc n) from until arrivals =
    rounds n until (until + (until - from)) (again from until arrivals)

-- however often they come again, they keep the rules, and a job of the task stands in each tick
-- from the first of them on until their end
pub record GoesOn (S : System) (mode : ℕ) (rules : List ArrivalRule) (arrivals : List Arrival)
    (from until k : ℕ) : Type 0 where
  pub keep : (n : ℕ) → KeepRules S rules (rounds n from until arrivals)
  pub stands : (n : ℕ)
      → StandsBetween S mode (rounds n from until arrivals) from (until + n * (until - from)) k

-- all arrivals come before tick `until`; the states before ticks `from` and `until` have one key;
-- a job of the task stands in each tick between; the arrivals keep the rules, also where those from
-- `from` on come once more; and by no rule do these add more than their ticks take off
pub record IsLasso (S : System) (mode : ℕ) (rules : List ArrivalRule) (need : Need)
    (arrivals : List Arrival) (from until k : ℕ) : Type 0 where
  pub less : from < until
  pub before : AllByRecursion (λ (a : Arrival). a.tick < until) arrivals
  pub key : key S need (kept_after S mode arrivals from)
      ≡ key S need (kept_after S mode arrivals until)
  pub stands : StandsBetween S mode arrivals from until k
  pub keep : KeepRules S rules arrivals
  pub again : KeepRules S rules (again from until arrivals)
  pub pays : (n : ℕ)
      → comings arrivals (rule_at rules n).routine from (until - from) * (rule_at rules n).period
      ≤ until - from

-- ---- the law

pub record IsUnending (S : System) (mode : ℕ) (rules : List ArrivalRule) (arrivals : List Arrival)
    (from until k : ℕ) : Type 0 where
  pub goes_on : GoesOn S mode rules arrivals from until k
  pub ever : NeedNotEnd S mode rules k

abbrev pub LassosAreEndless : Type 0
LassosAreEndless =
    (S : System) (mode : ℕ) (rules : List ArrivalRule) (need : Need) (arrivals : List Arrival)
    (from until k : ℕ) → IsProper S → Suffices S need → NeedsOwnWords S need
    → IsLasso S mode rules need arrivals from until k
    → IsUnending S mode rules arrivals from until k

-- OSEK/VDX OS: interrupt processing, category 2. Arrivals that can be written as a list.
use Rattle.std.specs.Prelude.{◌≡◌, true, List}
use Rattle.osek_base.specs.declared.arrivals.Arrival.{Arrival}
use Rattle.osek_base.specs.ArrivalList.{is_arrival_list}
use Rattle.osek_base.specs.System.{System}
use Rattle.arrival_rules.specs.declared.rule.ArrivalRule.{ArrivalRule}
use Rattle.arrival_rules.specs.Rules.{KeepRules}

-- arrivals keep rules, and are a list as one is read: in order, below the limit of ticks, and not
-- too many
pub record IsKeptList (S : System) (rules : List ArrivalRule) (arrivals : List Arrival)
    : Type 0 where
  pub list : is_arrival_list arrivals ≡ true
  pub keep : KeepRules S rules arrivals

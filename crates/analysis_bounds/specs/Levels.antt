-- What is counted of a level, as code keeps it, in the words of the laws.
use Rattle.std.specs.Prelude.{ℕ, ◌+◌, ◌*◌, ◌≡◌, true, List, [], ◌∷◌, slice_index_or}
use Rattle.osek_base.specs.declared.limits.TheConstants.{MAX_EVENTS}
use Rattle.osek_base.specs.System.{System}
use Rattle.arrival_rules.specs.declared.rule.ArrivalRule.{ArrivalRule}
use Rattle.law_windows.specs.Analysis.{AreAlwaysEnough}
use Rattle.law_windows.specs.Coming.{Costs}
use Rattle.law_windows.specs.Expiring.{most_expiries}
use Rattle.law_costs.specs.Left.{Weights}
use Rattle.law_nodes.specs.Early.{sum_of}
use Rattle.law_nodes.specs.Nodes.{Table}
use Rattle.law_nodes.specs.Paid.{EventCosts, prices_pay}
use Rattle.law_nodes.specs.Prices.{Priced}
use Rattle.law_nodes.specs.Setting.{are_set_slowly}
use Rattle.analysis_nodes.specs.declared.graph.Graph.{Graph}
use Rattle.analysis_nodes.specs.Graph.{table_of}
use Rattle.analysis_bounds.specs.declared.level.Level.{Level}

-- by number, 0 where there is none
abbrev pub numbered : List ℕ → ℕ → ℕ
numbered list n = slice_index_or list n 0

-- by task and event
abbrev pub by_event : List ℕ → ℕ → ℕ → ℕ
by_event list t b = numbered list (t * MAX_EVENTS + b)

abbrev pub costs_of : Level → Costs
costs_of level =
    record {
      of_arrival = numbered level.arrivals.items;
      of_expiry = numbered level.expiries.items;
      at_boot = level.at_boot;
      at_begin = level.at_begin;
    }

abbrev pub event_costs_of : Level → EventCosts
event_costs_of level =
    record { set = by_event level.sets.items; held = by_event level.holds.items }

-- costs of jobs and routines as they stand are those of nodes
abbrev pub weights_of : Level → Weights
weights_of level =
    record {
      of_active = λ w a. 0;
      of_job = λ m w j. 0;
      of_task = numbered level.tasks.items;
      of_event = λ t m. sum_of (by_event level.sets.items t) m;
      of_section = level.section;
      of_alarm = numbered level.alarms.items;
      costs = costs_of level;
    }

-- nodes with their prices, one by one
abbrev pub priced : Table → List ℕ → List Priced
priced (n ∷ table) (price ∷ prices) = record { node = n; cost = price } ∷ priced table prices
priced _ _ = []

-- the prices pay, alarms are set so slowly, and so many ticks are enough
pub record IsCounted (S : System) (mode : ℕ) (rules : List ArrivalRule) (g : Graph)
    (level : Level) (least : List ℕ) (most : ℕ) : Type 0 where
  pub pays : prices_pay S mode level.priority (weights_of level) (event_costs_of level)
      (priced (table_of g) level.prices.items)
      ≡ true
  pub slow : are_set_slowly S mode (costs_of level) (table_of g) (numbered least) ≡ true
  pub enough : AreAlwaysEnough S rules (costs_of level)
      (most_expiries S mode (numbered least) most) most

-- Prices that pay bound responses by known ticks of alarms.
use Rattle.law_costs.proofs.AtKnownTicks.{costs_bound_at_expiries, costs_bound_at_known_ticks}
use Rattle.law_nodes.specs.Closed.{known_by}
use Rattle.law_nodes.specs.KnownTicks.{PricesBoundAtExpiries, PricesBoundAtKnownTicks}
use Rattle.law_nodes.specs.Paid.{with_events}
use Rattle.law_nodes.specs.Prices.{priced_by, table_of}
use Rattle.law_nodes.proofs.Closing.{closed_tables_stay_known}
use Rattle.law_nodes.proofs.Paid.{prices_pay_for_all}
use Rattle.law_nodes.proofs.Setting.{alarms_slow}

pub prices_bound_at_known_ticks : PricesBoundAtKnownTicks
prices_bound_at_known_ticks S mode rules p c e prices least most first round proper closed pay
    slow rounds at =
    costs_bound_at_known_ticks S mode rules p (priced_by S p (with_events c e) e.held prices)
    (known_by (table_of prices)) least most first round proper
    (closed_tables_stay_known S (table_of prices) closed)
    (prices_pay_for_all S mode p c e prices pay)
    (alarms_slow S mode (table_of prices) c.costs least slow) rounds at

pub prices_bound_at_expiries : PricesBoundAtExpiries
prices_bound_at_expiries S mode rules p c e prices least most first round proper closed pay
    slow rounds at =
    costs_bound_at_expiries S mode rules p (priced_by S p (with_events c e) e.held prices)
    (known_by (table_of prices)) least most first round proper
    (closed_tables_stay_known S (table_of prices) closed)
    (prices_pay_for_all S mode p c e prices pay)
    (alarms_slow S mode (table_of prices) c.costs least slow) rounds at

-- Prices that pay bound responses.
use Rattle.law_costs.proofs.Falls.{costs_bound_responses}
use Rattle.law_nodes.specs.Closed.{known_by}
use Rattle.law_nodes.specs.Paid.{PricesBoundResponses, with_events}
use Rattle.law_nodes.specs.Prices.{priced_by, table_of}
use Rattle.law_nodes.proofs.Closing.{closed_tables_stay_known}
use Rattle.law_nodes.proofs.Paid.{prices_pay_for_all}
use Rattle.law_nodes.proofs.Setting.{alarms_slow}

pub prices_bound_responses : PricesBoundResponses
prices_bound_responses S mode rules p c e prices least most proper closed pay slow enough =
    costs_bound_responses S mode rules p (priced_by S p (with_events c e) e.held prices)
    (known_by (table_of prices)) least most proper
    (closed_tables_stay_known S (table_of prices) closed)
    (prices_pay_for_all S mode p c e prices pay)
    (alarms_slow S mode (table_of prices) c.costs least slow) enough

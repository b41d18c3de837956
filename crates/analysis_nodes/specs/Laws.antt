-- Graphs are closed tables, and what passes of all outcomes passes by the laws.
use Rattle.std.specs.Prelude.{ℕ, ◌≡◌, Bool, true}
use Rattle.std.specs.List.{list_all}
use Rattle.osek_base.specs.declared.instr.Instr.{Instr}
use Rattle.osek_base.specs.System.{System}
use Rattle.law_costs.specs.Left.{Weights}
use Rattle.law_nodes.specs.Closed.{is_closed}
use Rattle.law_nodes.specs.Nodes.{Node, Table}
use Rattle.law_nodes.specs.Prices.{all_outcomes}
use Rattle.analysis_nodes.specs.declared.graph.Graph.{Graph}
use Rattle.analysis_nodes.specs.Graph.{IsGraph, table_of}
use Rattle.analysis_nodes.specs.Outcomes.{cost_of_alarm, cost_of_start, outcomes_by}

abbrev pub GraphsAreClosed : Type 0
GraphsAreClosed =
    (S : System) (g : Graph) → IsGraph S g → is_closed S (table_of g) ≡ true

-- a test of what becomes of who is at a node, and of what is started and set, goes by outcomes
abbrev pub OutcomesAreAll : Type 0
OutcomesAreAll =
    (S : System) (c : Weights) (pays : Table → ℕ → ℕ → Bool) (what : Instr) (n : Node)
    → all_outcomes S c pays what n
    ≡ list_all (λ o. pays o.next (cost_of_start c o.start) (cost_of_alarm c.of_alarm o.start))
    (outcomes_by S what n)

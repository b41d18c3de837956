-- Prices that pay, and windows that are short one by one, bound what lies in windows.
use Rattle.std.proofs.Common.{ℕ, ◌≡◌, true, List, sym, subst}
use Rattle.osek_base.specs.Proper.{IsProper}
use Rattle.osek_base.specs.System.{System}
use Rattle.arrival_rules.specs.declared.rule.ArrivalRule.{ArrivalRule}
use Rattle.law_windows.specs.Analysis.{IsBoundOf}
use Rattle.law_nodes.specs.Closed.{is_closed}
use Rattle.law_nodes.specs.KnownTicks.{PricesBoundAtExpiries}
use Rattle.law_nodes.specs.Paid.{EventCosts, prices_pay}
use Rattle.law_nodes.specs.Prices.{table_of as nodes_priced}
use Rattle.law_nodes.specs.Setting.{are_set_slowly}
use Rattle.analysis_nodes.specs.declared.graph.Graph.{Graph}
use Rattle.analysis_nodes.specs.Graph.{IsGraph, table_of}
use Rattle.analysis_nodes.specs.Laws.{GraphsAreClosed}
use Rattle.analysis_bounds.specs.declared.level.Level.{Level}
use Rattle.analysis_bounds.specs.Checks.{HasPrices}
use Rattle.analysis_bounds.specs.KnownTicks.{AreShortByRounds}
use Rattle.analysis_bounds.specs.Levels.{costs_of, numbered, priced, weights_of}
use Rattle.analysis_bounds.proofs.BoundLemmas.{priced_nodes}

pub bound_by_rounds : (S : System) (mode : ℕ) (rules : List ArrivalRule) (g : Graph)
    (level : Level) (e : EventCosts) (least : List ℕ) (most : ℕ) → PricesBoundAtExpiries
    → GraphsAreClosed → IsProper S → IsGraph S g → HasPrices g level
    → prices_pay S mode level.priority (weights_of level) e
    (priced (table_of g) level.prices.items)
    ≡ true
    → are_set_slowly S mode (costs_of level) (table_of g) (numbered least) ≡ true
    → AreShortByRounds S mode rules level least most
    → IsBoundOf S mode rules level.priority most
bound_by_rounds S mode rules g level e least most bound closed proper graph has pays slow short =
    bound S mode rules level.priority (weights_of level) e
    (priced (table_of g) level.prices.items) (numbered least) most short.first short.round proper
    (subst (λ table. is_closed S table ≡ true) (sym same) (closed S g graph)) pays
    (subst (λ table. are_set_slowly S mode (costs_of level) table (numbered least) ≡ true)
    (sym same) slow)
    short.is_round short.short
  where
    same : nodes_priced (priced (table_of g) level.prices.items) ≡ table_of g
    same = priced_nodes g.nodes.items level.prices.items has

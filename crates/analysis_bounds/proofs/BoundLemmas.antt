-- Prices that pay, and ticks that are enough, bound what lies in windows.
use Rattle.std.proofs.Common.{ℕ, zero, suc, ◌≡◌, ◌<◌, ◌≤◌, ◌⊎◌, inl, inr, true, List, [], ◌∷◌, map, length, refl, sym, ◌∙◌, ap, subst, arith}
use Rattle.std.specs.Prelude.{slice_set}
use Rattle.osek_base.specs.Proper.{IsProper}
use Rattle.osek_base.specs.System.{System}
use Rattle.arrival_rules.specs.declared.rule.ArrivalRule.{ArrivalRule}
use Rattle.law_windows.specs.Analysis.{IsBoundOf}
use Rattle.law_nodes.specs.Closed.{is_closed}
use Rattle.law_nodes.specs.Nodes.{Table}
use Rattle.law_nodes.specs.Paid.{PricesBoundResponses}
use Rattle.law_nodes.specs.Prices.{table_of as nodes_priced}
use Rattle.law_nodes.specs.Setting.{are_set_slowly}
use Rattle.analysis_nodes.specs.declared.graph.Graph.{Graph}
use Rattle.analysis_nodes.specs.declared.node.Node.{Node as Kept}
use Rattle.analysis_nodes.specs.Graph.{IsGraph, table_of}
use Rattle.analysis_nodes.specs.Laws.{GraphsAreClosed}
use Rattle.analysis_nodes.specs.Nodes.{node_by}
use Rattle.analysis_bounds.specs.declared.level.Level.{Level}
use Rattle.analysis_bounds.specs.declared.levels.TheConstants.{CAP}
use Rattle.analysis_bounds.specs.declared.window.Window.{Window}
use Rattle.analysis_bounds.specs.Checks.{HasPrices}
use Rattle.analysis_bounds.specs.Levels.{IsCounted, costs_of, event_costs_of, numbered, priced, weights_of}
use Rattle.analysis_bounds.specs.Windows.{AreMosts, IsWindowOf, MostOf}

-- the nodes of all prices are those of the graph
pub priced_nodes : (nodes : List Kept) (prices : List ℕ) → length prices ≡ length nodes
    → nodes_priced (priced (map node_by nodes) prices) ≡ map node_by nodes
priced_nodes [] prices same = refl
priced_nodes (n ∷ nodes) [] same = absurd (omega (arith, same))
priced_nodes (n ∷ nodes) (price ∷ prices) same =
    ap (λ table. node_by n ∷ table) (priced_nodes nodes prices (omega (arith, same)))

pub counted_bound : (S : System) (mode : ℕ) (rules : List ArrivalRule) (g : Graph) (level : Level)
    (least : List ℕ) (most : ℕ) → PricesBoundResponses → GraphsAreClosed → IsProper S
    → IsGraph S g → HasPrices g level → IsCounted S mode rules g level least most
    → IsBoundOf S mode rules level.priority most
counted_bound S mode rules g level least most bound closed proper graph has counted =
    bound S mode rules level.priority (weights_of level) (event_costs_of level)
    (priced (table_of g) level.prices.items) (numbered least) most proper
    (subst (λ table. is_closed S table ≡ true) (sym same) (closed S g graph)) counted.pays
    (subst (λ table. are_set_slowly S mode (costs_of level) table (numbered least) ≡ true)
    (sym same) counted.slow)
    counted.enough
  where
    same : nodes_priced (priced (table_of g) level.prices.items) ≡ table_of g
    same = priced_nodes g.nodes.items level.prices.items has

-- ---- the most of a priority is set

set_there : (mosts : List ℕ) (p k q : ℕ)
    → ((q ≡ p) × (numbered (slice_set mosts p k) q ≡ k))
    ⊎ (numbered (slice_set mosts p k) q ≡ numbered mosts q)
set_there [] p k q = inr refl
set_there (m ∷ mosts) zero k zero = inl (refl, refl)
set_there (m ∷ mosts) zero k (suc q) = inr refl
set_there (m ∷ mosts) (suc p) k zero = inr refl
set_there (m ∷ mosts) (suc p) k (suc q) = go (set_there mosts p k q)
  where
    go : (((q ≡ p) × (numbered (slice_set mosts p k) q ≡ k))
        ⊎ (numbered (slice_set mosts p k) q ≡ numbered mosts q))
        → ((suc q ≡ suc p) × (numbered (slice_set mosts p k) q ≡ k))
        ⊎ (numbered (slice_set mosts p k) q ≡ numbered mosts q)
    go (inl here) = inl (ap suc here.0, here.1)
    go (inr other) = inr other

set_length : (mosts : List ℕ) (p k : ℕ) → length (slice_set mosts p k) ≡ length mosts
set_length [] p k = refl
set_length (m ∷ mosts) zero k = refl
set_length (m ∷ mosts) (suc p) k = ap suc (set_length mosts p k)

pub set_mosts : (S : System) (mode : ℕ) (rules : List ArrivalRule) (mosts : List ℕ) (p k : ℕ)
    (window : Window) → IsWindowOf S mode rules p window → MostOf window k
    → AreMosts S mode rules CAP mosts → AreMosts S mode rules CAP (slice_set mosts p k)
set_mosts S mode rules mosts p k window is noted bounds q low below =
    go (set_there mosts p k q)
  where
    bound : (w : Window) → IsWindowOf S mode rules p w → MostOf w k → k < CAP
        → IsBoundOf S mode rules p k
    bound (Window.Bounded level most from) is_bound same less =
        subst (IsBoundOf S mode rules p) (sym same) is_bound
    bound (Window.Unbounded why) is_bound same less = absurd (omega (arith, same, less))

    go : (((q ≡ p) × (numbered (slice_set mosts p k) q ≡ k))
        ⊎ (numbered (slice_set mosts p k) q ≡ numbered mosts q))
        → IsBoundOf S mode rules q (numbered (slice_set mosts p k) q)
    go (inl here) =
        subst (λ n. IsBoundOf S mode rules q n) (sym here.1)
        (subst (λ n. IsBoundOf S mode rules n k) (sym here.0)
        (bound window is noted (subst (λ n. n < CAP) here.1 below)))
    go (inr other) =
        subst (IsBoundOf S mode rules q) (sym other)
        (bounds q (subst (λ n. q < n) (set_length mosts p k) low)
        (subst (λ n. n < CAP) other below))

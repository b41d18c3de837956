-- Alarms that are checked by number are set slowly, whatever they cost; and those that pay get no
-- cycle.
use Rattle.std.proofs.Common.{ℕ, zero, suc, ◌+◌, ◌≡◌, ◌<◌, ◌≤◌, Bool, true, false, not, ◌&&◌, ◌||◌, nat_le, List, [], ◌∷◌, map, length, slice_get, refl, sym, ◌∙◌, ap, arith}
use Rattle.std.specs.Prelude.{Some}
use Rattle.std.specs.List.{list_all}
use Rattle.std.proofs.lemmas.Bool.{and_from, le-leb, leb-false, leb-true}
use Rattle.osek_base.specs.System.{System, alarm_start_in, instruction_at}
use Rattle.law_alarms.specs.Setting.{is_never_set}
use Rattle.law_windows.specs.Coming.{Costs}
use Rattle.law_nodes.specs.Nodes.{Node, Table}
use Rattle.law_nodes.specs.Setting.{are_set_once, is_set_once, is_set_slowly, node_sets_slowly, sets_once, starts_once, starts_slowly}
use Rattle.law_nodes.proofs.Tests.{second_of}
use Rattle.analysis_nodes.specs.declared.graph.Graph.{Graph}
use Rattle.analysis_nodes.specs.declared.node.Node.{Node as Kept}
use Rattle.analysis_nodes.specs.Graph.{table_of}
use Rattle.analysis_nodes.specs.Nodes.{node_by}
use Rattle.analysis_bounds.specs.declared.level.Level.{Level}
use Rattle.analysis_bounds.specs.Levels.{numbered, weights_of}
use Rattle.analysis_bounds.specs.Pacing.{AreSlow, NodesAreSlow, StartsAreSlow}
use Rattle.analysis_bounds.specs.Paying.{NodesAreOnce, StartsAreOnce}
use Rattle.analysis_bounds.proofs.SumLemmas.{all_below}
use Rattle.analysis_bounds.proofs.WayLemmas.{unless_true}

all_mapped : (test : Node → Bool) (nodes : List Kept)
    → ((number : ℕ) → number < length nodes → (n : Kept) → slice_get nodes number ≡ Some n
    → test (node_by n) ≡ true)
    → list_all test (map node_by nodes) ≡ true
all_mapped test [] each = refl
all_mapped test (n ∷ nodes) each =
    and_from (test (node_by n)) (list_all test (map node_by nodes)) (each 0 (omega arith) n refl)
    (all_mapped test nodes (λ number low. each (suc number) (omega (arith, low))))

pub slow_all : (S : System) (mode : ℕ) (g : Graph) (least : List ℕ)
    → StartsAreSlow S mode least (length S.alarms)
    → NodesAreSlow S g least (length g.nodes.items) → AreSlow S mode g least
slow_all S mode g least starts nodes costs =
    all_below
    (λ a. not (nat_le 1 (costs.of_expiry a)) || is_never_set S a
    || is_set_slowly S mode (table_of g) a (numbered least a))
    (length S.alarms)
    (λ a low.
    second_of (not (nat_le 1 (costs.of_expiry a)) || is_never_set S a)
    (is_set_slowly S mode (table_of g) a (numbered least a)) (one a low))
  where
    one : (a : ℕ) → a < length S.alarms
        → is_set_slowly S mode (table_of g) a (numbered least a) ≡ true
    one a low =
        and_from (nat_le 1 (numbered least a))
        (nat_le (numbered least a) 1
        || (starts_slowly (numbered least a) (alarm_start_in S mode a)
        && list_all (node_sets_slowly S a (numbered least a)) (table_of g)))
        (le-leb 1 (numbered least a) (starts a low).0)
        (go (nat_le (numbered least a) 1) refl)
      where
        go : (b : Bool) → nat_le (numbered least a) 1 ≡ b
            → (b || (starts_slowly (numbered least a) (alarm_start_in S mode a)
            && list_all (node_sets_slowly S a (numbered least a)) (table_of g)))
            ≡ true
        go true few = refl
        go false few =
            and_from (starts_slowly (numbered least a) (alarm_start_in S mode a))
            (list_all (node_sets_slowly S a (numbered least a)) (table_of g)) (starts a low).1
            (all_mapped (node_sets_slowly S a (numbered least a)) g.nodes.items
            (λ number inside n there. nodes number inside n there a (leb-false (numbered least a) 1 few)))

pub once_all : (S : System) (mode : ℕ) (g : Graph) (level : Level)
    → StartsAreOnce S mode level.alarms.items (length S.alarms)
    → NodesAreOnce S g level.alarms.items (length g.nodes.items)
    → are_set_once S mode (weights_of level) (table_of g) ≡ true
once_all S mode g level starts nodes =
    all_below (λ a. not (nat_le 1 (pays a)) || is_set_once S mode (table_of g) a)
    (length S.alarms)
    (λ a low.
    unless_true (nat_le 1 (pays a)) (is_set_once S mode (table_of g) a)
    (λ some. one a low (leb-true 1 (pays a) some)))
  where
    pays : ℕ → ℕ
    pays = numbered level.alarms.items

    one : (a : ℕ) → a < length S.alarms → 1 ≤ pays a
        → is_set_once S mode (table_of g) a ≡ true
    one a low some =
        and_from (starts_once (alarm_start_in S mode a))
        (list_all (λ (n : Node). sets_once a n.registers (instruction_at S n.owner n.place))
        (table_of g))
        (starts a low some)
        (all_mapped (λ (n : Node). sets_once a n.registers (instruction_at S n.owner n.place))
        g.nodes.items (λ number inside n there. nodes number inside n there a some))

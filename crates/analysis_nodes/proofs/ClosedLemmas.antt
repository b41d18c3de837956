-- The nodes of a graph are a closed table.
use Rattle.std.proofs.Common.{◌≡◌, ℕ, zero, suc, Bool, true, false, not, cond, ◌||◌, List, [], ◌∷◌, length, slice_get, refl, sym, ◌∙◌, ap, arith}
use Rattle.std.specs.Prelude.{Option, Some, None, is_some}
use Rattle.std.specs.List.{flat_map, list_all}
use Rattle.std.proofs.lemmas.Bool.{and_from}
use Rattle.std.proofs.lemmas.List.{append-nil, length-map}
use Rattle.std.proofs.lemmas.List.Folds.{flat_map-map, list_all-append}
use Rattle.std.proofs.lemmas.Option.{none-some, same_Some}
use Rattle.osek_base.specs.declared.instr.Instr.{Instr}
use Rattle.osek_base.specs.System.{System, instruction_at}
use Rattle.law_nodes.specs.Closed.{goes_on_in}
use Rattle.law_nodes.specs.Nodes.{Node, Table, covers, is_covered, woken_node}
use Rattle.law_nodes.specs.Services.{answers}
use Rattle.law_nodes.specs.Steps.{steps, steps_by}
use Rattle.analysis_nodes.specs.declared.graph.Links.{Links}
use Rattle.analysis_nodes.specs.declared.graph.Way.{Way}
use Rattle.analysis_nodes.specs.Graph.{AreCoveredBy, AreWays, IsCoveredBy, IsLinked, IsWoken, table_of}
use Rattle.analysis_nodes.specs.Laws.{GraphsAreClosed}
use Rattle.analysis_nodes.specs.Nodes.{node_by}
use Rattle.analysis_nodes.specs.Outcomes.{Outcome, outcome_by, outcomes, outcomes_by}

-- ---- lists by number

-- what holds of each element by its number holds of all
all_by_number : {X : Type 0} (p : X → Bool) (xs : List X)
    → ((k : ℕ) (x : X) → slice_get xs k ≡ Some x → p x ≡ true) → list_all p xs ≡ true
all_by_number p [] each = refl
all_by_number p (x ∷ xs) each =
    and_from (p x) (list_all p xs) (each 0 x refl)
    (all_by_number p xs (λ k y at. each (suc k) y at))

-- where one list has an element, another one that is as long has one
other_has : {X Y : Type 0} (xs : List X) (ys : List Y) → length ys ≡ length xs → (k : ℕ) (x : X)
    → slice_get xs k ≡ Some x → (y : Y) × (slice_get ys k ≡ Some y)
other_has [] ys same k x at = absurd (none-some x at)
other_has (x ∷ xs) [] same k z at = absurd (grind (arith, same))
other_has (x ∷ xs) (y ∷ ys) same zero z at = (y, refl)
other_has (x ∷ xs) (y ∷ ys) same (suc k) z at =
    let fewer : length ys ≡ length xs = grind (arith, same) in
    other_has xs ys fewer k z at

-- ---- nodes that are covered

or_first : (b c : Bool) → b ≡ true → (b || c) ≡ true
or_first b c is = ap (λ d. d || c) is

or_second : (b c : Bool) → c ≡ true → (b || c) ≡ true
or_second true c is = refl
or_second false c is = is

covered_at : (table : Table) (k : ℕ) (m n : Node) → slice_get table k ≡ Some m
    → covers m n ≡ true → is_covered table n ≡ true
covered_at [] k m n at over = absurd (none-some m at)
covered_at (x ∷ table) zero m n at over =
    or_first (covers x n) (is_covered table n)
    (ap (λ y. covers y n) (same_Some x m at) ∙ over)
covered_at (x ∷ table) (suc k) m n at over =
    or_second (covers x n) (is_covered table n) (covered_at table k m n at over)

pub covered : (table : Table) (k : ℕ) (n : Node) → IsCoveredBy table k n
    → is_covered table n ≡ true
covered table k n by = covered_at table k by.node n by.stands by.covers_it

module _ (table : Table) where
  next_covered : (numbers : List ℕ) (next : Table) → AreCoveredBy table numbers next
      → list_all (is_covered table) next ≡ true
  next_covered [] [] by = refl
  next_covered [] (n ∷ next) by = absurd by
  next_covered (k ∷ numbers) [] by = absurd by
  next_covered (k ∷ numbers) (n ∷ next) by =
      and_from (is_covered table n) (list_all (is_covered table) next)
      (covered table k n by.0) (next_covered numbers next by.1)

  ways_covered : (ways : List Way) (others : List Outcome) → AreWays table ways others
      → list_all (is_covered table) (flat_map (λ (o : Outcome). o.next) others) ≡ true
  ways_covered [] [] by = refl
  ways_covered [] (o ∷ others) by = absurd by
  ways_covered (w ∷ ways) [] by = absurd by
  ways_covered (w ∷ ways) (o ∷ others) by =
      list_all-append (is_covered table) o.next (flat_map (λ (o : Outcome). o.next) others)
      ∙ and_from (list_all (is_covered table) o.next)
      (list_all (is_covered table) (flat_map (λ (o : Outcome). o.next) others))
      (next_covered w.next.items o.next by.0.next_covered) (ways_covered ways others by.1)

  woken_covered : (o : Option ℕ) (n : Node) → IsWoken table o n
      → is_covered table (woken_node n) ≡ true
  woken_covered None n by = absurd by
  woken_covered (Some k) n by = covered table k (woken_node n) by

-- ---- steps

steps_told : (S : System) (n : Node) (b : Bool) (what : Instr)
    → flat_map (λ (o : Outcome). o.next) (cond b [] (outcomes_by S what n))
    ≡ cond b [] (steps_by S what n)
steps_told S n true what = refl
steps_told S n false (Instr.Plain plain) = append-nil (steps_by S (Instr.Plain plain) n)
steps_told S n false (Instr.Control control) = append-nil (steps_by S (Instr.Control control) n)
steps_told S n false (Instr.Service call) =
    flat_map-map (λ (o : Outcome). o.next) (outcome_by S n call) (answers S n call)

goes_on : (S : System) (table : Table) (n : Node) (l : Links) → IsLinked S table n l
    → goes_on_in S table n ≡ true
goes_on S table n l by =
    and_from (list_all (is_covered table) (steps S n))
    (not (is_some n.waits_for) || is_covered table (woken_node n)) each
    (waits (is_some n.waits_for) by.woken_told)
  where
    each : list_all (is_covered table) (steps S n) ≡ true
    each =
        ap (list_all (is_covered table))
        (sym (steps_told S n (is_some n.waits_for) (instruction_at S n.owner n.place)))
        ∙ ways_covered table l.ways.items (outcomes S n) by.ways_told

    waits : (b : Bool) → (b ≡ true → IsWoken table l.woken n)
        → (not b || is_covered table (woken_node n)) ≡ true
    waits true told = woken_covered table l.woken n (told refl)
    waits false told = refl

-- ---- graphs

pub graphs_are_closed : GraphsAreClosed
graphs_are_closed S g is =
    and_from _ (list_all (goes_on_in S (table_of g)) (table_of g)) is.fresh
    (all_by_number (goes_on_in S (table_of g)) (table_of g) each)
  where
    long : length g.links.items ≡ length (table_of g)
    long = is.count ∙ sym (length-map g.nodes.items node_by)

    each : (k : ℕ) (n : Node) → slice_get (table_of g) k ≡ Some n
        → goes_on_in S (table_of g) n ≡ true
    each k n at =
        let has = other_has (table_of g) g.links.items long k n at in
        goes_on S (table_of g) n has.0 (is.linked k n has.0 at has.1)

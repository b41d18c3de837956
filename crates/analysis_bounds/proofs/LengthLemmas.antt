-- OSEK/VDX OS: interrupt processing, category 2. Lengths that are checked by numbers hold, and
-- routines that begin at their nodes last so long.
use Rattle.std.proofs.Common.{ℕ, zero, suc, ◌+◌, ◌≡◌, ◌<◌, ◌≤◌, ◌⊎◌, inl, inr, Bool, true, false, not, ◌&&◌, ◌||◌, ◌==◌, cond, nat_le, nat_lt, List, [], ◌∷◌, map, length, replicate, slice_get, refl, sym, ◌∙◌, ap, subst, arith, get_or, not-suc-le-zero, le_of_suc-le-suc}
use Rattle.std.specs.Prelude.{Option, Some, None, is_some}
use Rattle.std.specs.List.{list_all, list_any}
use Rattle.std.proofs.lemmas.Bool.{and_from, and_parts, cases_lt, le-leb, ltb-false, or_parts}
use Rattle.osek_base.specs.declared.limits.TheConstants.{REGISTERS}
use Rattle.osek_base.specs.declared.ids.Owner.{Owner}
use Rattle.osek_base.specs.declared.ids.ResId.{ResId}
use Rattle.osek_base.specs.Lists.{is_empty, same_owner}
use Rattle.osek_base.specs.System.{System, instruction_at}
use Rattle.law_runs.proofs.Foremost.{self_equal}
use Rattle.law_runs.proofs.Lists.{clash, none_some, some_inside}
use Rattle.law_windows.specs.Routines.{begun}
use Rattle.law_costs.specs.Left.{Switch, is_off, on}
use Rattle.law_nodes.specs.Nodes.{Node, Table, covers, is_at, of_routine, same_held, same_switch, same_wait}
use Rattle.law_nodes.specs.Prices.{all_outcomes}
use Rattle.law_nodes.specs.Values.{may_have}
use Rattle.law_nodes.proofs.Tests.{first_of, second_of}
use Rattle.law_analysis.specs.Lengths.{Lasts, LengthsLast, Long, are_followed, free, is_followed, is_long_at, is_of_task, lengths_hold}
use Rattle.analysis_nodes.specs.declared.graph.Graph.{Graph}
use Rattle.analysis_nodes.specs.declared.graph.Links.{Links}
use Rattle.analysis_nodes.specs.declared.graph.Way.{Way}
use Rattle.analysis_nodes.specs.declared.node.Node.{Node as Kept}
use Rattle.analysis_nodes.specs.Graph.{AreCoveredBy, AreWays, IsCoveredBy, IsGraph, IsLinked, IsWay, table_of}
use Rattle.analysis_nodes.specs.Laws.{OutcomesAreAll}
use Rattle.analysis_nodes.specs.Nodes.{node_by}
use Rattle.analysis_nodes.specs.Outcomes.{Outcome, outcomes_by}
use Rattle.analysis_bounds.specs.Lengths.{AllGoOn, AreFollowed, GoesOn, IsFollowed, IsFresh, IsLong, NodesAreLong, long_by, longs_of}
use Rattle.analysis_bounds.specs.Levels.{numbered}
use Rattle.analysis_bounds.proofs.WayLemmas.{also_there, mapped}

-- ---- by number

-- what stands at a place of a list
pub at_place : (xs : List ℕ) (i x : ℕ) → slice_get xs i ≡ Some x → numbered xs i ≡ x
at_place [] i x h = absurd (none_some x h)
at_place (y ∷ xs) zero x h = some_inside y x h
at_place (y ∷ xs) (suc i) x h = at_place xs i x h

long_any : (test : Long → Bool) (table : Table) (lengths : List ℕ) (i : ℕ) (n : Node) (count : ℕ)
    → slice_get table i ≡ Some n → slice_get lengths i ≡ Some count
    → test (record { node = n; count = count }) ≡ true → list_any test (long_by table lengths) ≡ true
long_any test [] lengths i n count there long passes = absurd (none_some n there)
long_any test (m ∷ table) [] i n count there long passes = absurd (none_some count long)
long_any test (m ∷ table) (k ∷ lengths) zero n count there long passes =
    let same = some_inside m n there in
    let so = some_inside k count long in
    first_of (test (record { node = m; count = k })) (list_any test (long_by table lengths))
    (ap test (λ i. record { node = same i; count = so i }) ∙ passes)
long_any test (m ∷ table) (k ∷ lengths) (suc i) n count there long passes =
    second_of (test (record { node = m; count = k })) (list_any test (long_by table lengths))
    (long_any test table lengths i n count there long passes)

-- a test of all nodes with their lengths
long_all : (test : Long → Bool) (table : Table) (lengths : List ℕ)
    → ((i : ℕ) (n : Node) (count : ℕ) → slice_get table i ≡ Some n
    → slice_get lengths i ≡ Some count → test (record { node = n; count = count }) ≡ true)
    → list_all test (long_by table lengths) ≡ true
long_all test [] lengths each = refl
long_all test (n ∷ table) [] each = refl
long_all test (n ∷ table) (count ∷ lengths) each =
    and_from (test (record { node = n; count = count })) (list_all test (long_by table lengths))
    (each 0 n count refl refl)
    (long_all test table lengths (λ i m k there long. each (suc i) m k there long))

module _ (S : System) (g : Graph) (lengths : List ℕ)
    (has : length lengths ≡ length g.nodes.items) where
  abbrev longs : List Long
  longs = longs_of g lengths

  -- ---- next nodes

  next_followed : (count number : ℕ) (m : Node) → IsFollowed lengths count number
      → IsCoveredBy (table_of g) number m → is_followed longs count m ≡ true
  next_followed count number m followed covered =
      let kept = mapped node_by g.nodes.items number covered.node covered.stands in
      let long = also_there g.nodes.items lengths number kept.0 has kept.1 in
      long_any (λ q. covers q.node m && nat_le count (q.count + 1)) (table_of g) lengths number
      covered.node long.0 covered.stands long.1
      (and_from (covers covered.node m) (nat_le count (long.0 + 1)) covered.covers_it
      (subst (λ k. nat_le count (k + 1) ≡ true) (at_place lengths number long.0 long.1) followed))

  all_followed : (count : ℕ) (numbers : List ℕ) (next : Table)
      → AreCoveredBy (table_of g) numbers next
      → AreFollowed lengths count numbers (length numbers)
      → list_all (is_followed longs count) next ≡ true
  all_followed count [] [] covered followed = refl
  all_followed count [] (m ∷ next) covered followed = absurd covered
  all_followed count (number ∷ numbers) [] covered followed = absurd covered
  all_followed count (number ∷ numbers) (m ∷ next) covered followed =
      and_from (is_followed longs count m) (list_all (is_followed longs count) next)
      (next_followed count number m (followed 0 (omega arith)) covered.0)
      (all_followed count numbers next covered.1
      (λ place low. followed (suc place) (omega (arith, low))))

  some_next : (numbers : List ℕ) (next : Table) → AreCoveredBy (table_of g) numbers next
      → 1 ≤ length numbers → not (is_empty next) ≡ true
  some_next [] next covered some = absurd (not-suc-le-zero some)
  some_next (number ∷ numbers) [] covered some = absurd covered
  some_next (number ∷ numbers) (m ∷ next) covered some = refl

  -- ---- ways

  way_followed : (count : ℕ) (w : Way) (o : Outcome) → GoesOn lengths count w
      → IsWay (table_of g) w o → are_followed longs count o.next ≡ true
  way_followed count w o goes way =
      and_from (not (is_empty o.next)) (list_all (is_followed longs count) o.next)
      (some_next w.next.items o.next way.next_covered goes.some)
      (all_followed count w.next.items o.next way.next_covered goes.all_next)

  ways_followed : (count : ℕ) (ways : List Way) (os : List Outcome) → AreWays (table_of g) ways os
      → AllGoOn lengths count ways (length ways)
      → list_all (λ o. are_followed longs count o.next) os ≡ true
  ways_followed count [] [] are go = refl
  ways_followed count [] (o ∷ os) are go = absurd are
  ways_followed count (w ∷ ways) [] are go = absurd are
  ways_followed count (w ∷ ways) (o ∷ os) are go =
      and_from (are_followed longs count o.next)
      (list_all (λ k. are_followed longs count k.next) os)
      (way_followed count w o (go 0 (omega arith) w refl) are.0)
      (ways_followed count ways os are.1
      (λ place low v there. go (suc place) (omega (arith, low)) v there))

  -- ---- nodes

  unless_small : (count : ℕ) (x : Bool) → (1 < count → x ≡ true) → (nat_le count 1 || x) ≡ true
  unless_small count x h = by (cases_lt 1 count)
    where
      by : (1 < count) ⊎ (count ≤ 1) → (nat_le count 1 || x) ≡ true
      by (inl more) = second_of (nat_le count 1) x (h more)
      by (inr few) = first_of (nat_le count 1) x (le-leb count 1 few)

  node_long : (n : Node) (l : Links) (count : ℕ) → OutcomesAreAll → IsLinked S (table_of g) n l
      → IsLong lengths count n l.ways.items → is_long_at S longs count n ≡ true
  node_long n l count all_are linked long =
      go (is_of_task n.owner) refl (is_some n.waits_for) linked.ways_told
    where
      follows : Table → ℕ → ℕ → Bool
      follows next start set = are_followed longs count next

      go : (task : Bool) → is_of_task n.owner ≡ task → (waits : Bool)
          → AreWays (table_of g) l.ways.items
          (cond waits [] (outcomes_by S (instruction_at S n.owner n.place) n))
          → (task || waits || nat_le count 1
          || all_outcomes S free follows (instruction_at S n.owner n.place) n)
          ≡ true
      go true is waits are = refl
      go false is true are = refl
      go false is false are =
          unless_small count (all_outcomes S free follows (instruction_at S n.owner n.place) n)
          (λ more.
          all_are S free follows (instruction_at S n.owner n.place) n
          ∙ ways_followed count l.ways.items
          (outcomes_by S (instruction_at S n.owner n.place) n) are (long is more))

pub hold_by_numbers : (S : System) (g : Graph) (lengths : List ℕ) → OutcomesAreAll → IsGraph S g
    → length lengths ≡ length g.nodes.items
    → NodesAreLong g lengths (length g.nodes.items)
    → lengths_hold S (longs_of g lengths) ≡ true
hold_by_numbers S g lengths all_are graph has long =
    long_all (λ q. is_long_at S (longs_of g lengths) q.count q.node) (table_of g) lengths
    (λ number n count there counts.
    (let kept = mapped node_by g.nodes.items number n there in
    let links = also_there g.nodes.items g.links.items number kept.0 graph.count kept.1 in
    node_long S g lengths has n links.0 count all_are
    (graph.linked number n links.0 there links.1)
    (subst (λ k. IsLong lengths k n links.0.ways.items) (at_place lengths number count counts)
    (subst (λ m. IsLong lengths (numbered lengths number) m links.0.ways.items) kept.2
    (long number (inside g.nodes.items number kept.0 kept.1) kept.0 links.0 kept.1 links.1)))))
  where
    inside : (xs : List Kept) (k : ℕ) (x : Kept) → slice_get xs k ≡ Some x → k < length xs
    inside [] k x h = absurd (none_some x h)
    inside (y ∷ xs) zero x h = omega arith
    inside (y ∷ xs) (suc k) x h =
        let low = inside xs k x h in
        omega (arith, low)

-- an element within a list stands there
pub stands : {X : Type 0} (xs : List X) (k : ℕ) (x : X) → k < length xs → x ≡ get_or xs k x
    → slice_get xs k ≡ Some x
stands [] k x low is = absurd (not-suc-le-zero low)
stands (y ∷ xs) zero x low is = ap Some (sym is)
stands (y ∷ xs) (suc k) x low is = stands xs k x (le_of_suc-le-suc low) is

-- ---- routines as they begin

-- one that begins at the node of a number lasts as long as that has
pub lasts_at : (S : System) (g : Graph) (lengths : List ℕ) (i number : ℕ) (n : Kept)
    → LengthsLast → lengths_hold S (longs_of g lengths) ≡ true
    → slice_get g.nodes.items number ≡ Some n
    → is_at (node_by n) (of_routine on (begun i)) ≡ true
    → Lasts S (numbered lengths number) on (begun i)
lasts_at S g lengths i number n law holds there at =
    go (slice_get lengths number) refl
  where
    same_there : (xs : List Kept) (k : ℕ) → slice_get xs k ≡ Some n
        → slice_get (map node_by xs) k ≡ Some (node_by n)
    same_there [] k h = absurd (none_some n h)
    same_there (x ∷ xs) zero h = ap (λ m. Some (node_by m)) (some_inside x n h)
    same_there (x ∷ xs) (suc k) h = same_there xs k h

    go : (found : Option ℕ) → slice_get lengths number ≡ found
        → Lasts S (numbered lengths number) on (begun i)
    go None none = subst (λ k. Lasts S k on (begun i)) (sym (beyond lengths number none)) tt
      where
        beyond : (xs : List ℕ) (k : ℕ) → slice_get xs k ≡ None → numbered xs k ≡ 0
        beyond [] k h = refl
        beyond (x ∷ xs) zero h = absurd (none_some x (sym h))
        beyond (x ∷ xs) (suc k) h = beyond xs k h
    go (Some count) is =
        subst (λ k. Lasts S k on (begun i)) (sym (at_place lengths number count is))
        (law S (longs_of g lengths) i count holds
        (long_any
        (λ q. is_at q.node (of_routine on (begun i)) && nat_le count q.count) (table_of g) lengths
        number (node_by n) count (same_there g.nodes.items number there) is
        (and_from (is_at (node_by n) (of_routine on (begun i))) (nat_le count count) at
        (le-leb count count (omega arith)))))

-- ---- where a routine begins

not_true : (b : Bool) → not b ≡ true → b ≡ false
not_true true h = clash (sym h)
not_true false h = refl

is_zero : (k : ℕ) → nat_lt 0 k ≡ false → (k == 0) ≡ true
is_zero k h =
    let few = ltb-false 0 k h in
    let same : k ≡ 0 = omega (arith, few) in
    ap (λ m. m == 0) same

on_by : (w : Switch) → is_off w ≡ false → same_switch w on ≡ true
on_by w h =
    let both = or_parts (w.disabled || nat_lt 0 w.suspended_all) (nat_lt 0 w.suspended_os) h in
    let first = or_parts w.disabled (nat_lt 0 w.suspended_all) both.0 in
    and_from (cond w.disabled false true && w.suspended_all == 0) (w.suspended_os == 0)
    (and_from (cond w.disabled false true) (w.suspended_all == 0)
    (ap (λ b. cond b false true) first.0) (is_zero w.suspended_all first.1))
    (is_zero w.suspended_os both.1)

none_held : (held : List ResId) → is_empty held ≡ true → same_held held [] ≡ true
none_held [] h = refl
none_held (r ∷ held) h = clash (sym h)

no_wait : (wait : Option ℕ) → not (is_some wait) ≡ true → same_wait wait None ≡ true
no_wait None h = refl
no_wait (Some m) h = clash (sym h)

-- one that begins is at a node where one may begin
module _ (n : Node) (i : ℕ) where
  abbrev owners : Bool
  owners = same_owner n.owner (Owner.Routine i)

  abbrev switches : Bool
  switches = same_switch n.switch on

  abbrev helds : Bool
  helds = same_held n.held []

  abbrev waits : Bool
  waits = same_wait n.waits_for None

  abbrev places : Bool
  places = n.place == 0

  abbrev ready : Bool
  ready = not (is_some n.waits_for)

  abbrev enabled : Bool
  enabled = not (is_off n.switch)

  pub begun_at : n.owner ≡ Owner.Routine i → IsFresh n → is_at n (of_routine on (begun i)) ≡ true
  begun_at own fresh =
      and_from ((((owners && switches) && helds) && waits) && places)
      (may_have n.registers (replicate REGISTERS 0))
      (and_from (((owners && switches) && helds) && waits) places
      (and_from ((owners && switches) && helds) waits
      (and_from (owners && switches) helds
      (and_from owners switches (ap (λ who. same_owner who (Owner.Routine i)) own ∙ self_equal i)
      (on_by n.switch (not_true (is_off n.switch) one.1)))
      (none_held n.held two.1))
      (no_wait n.waits_for one.0))
      three.1)
      (subst (λ k. may_have n.registers (replicate k 0) ≡ true) fresh.many four.1)
    where
      four : ((((ready && enabled) && is_empty n.held) && places) ≡ true)
          × (may_have n.registers (replicate (length n.registers) 0) ≡ true)
      four =
          and_parts (((ready && enabled) && is_empty n.held) && places)
          (may_have n.registers (replicate (length n.registers) 0)) fresh.may_begin

      three : (((ready && enabled) && is_empty n.held) ≡ true) × (places ≡ true)
      three = and_parts ((ready && enabled) && is_empty n.held) places four.0

      two : ((ready && enabled) ≡ true) × (is_empty n.held ≡ true)
      two = and_parts (ready && enabled) (is_empty n.held) three.0

      one : (ready ≡ true) × (enabled ≡ true)
      one = and_parts ready enabled two.0

-- Ways that are checked by numbers pay as the laws ask of what becomes of who is at a node.
use Rattle.std.proofs.Common.{ℕ, zero, suc, ◌+◌, ◌≡◌, ◌<◌, ◌≤◌, Bool, true, false, not, ◌&&◌, ◌||◌, cond, nat_le, List, [], ◌∷◌, map, length, slice_get, refl, sym, ◌∙◌, ap, subst, arith}
use Rattle.std.specs.Prelude.{Option, Some, None, is_some, slice_index_or, unwrap_or}
use Rattle.std.specs.List.{AllByRecursion, list_all, list_any}
use Rattle.std.proofs.lemmas.Bool.{and_from, and_parts, leb-true, le-leb}
use Rattle.osek_base.specs.declared.ids.Owner.{Owner}
use Rattle.osek_base.specs.declared.instr.Instr.{Instr}
use Rattle.osek_base.specs.declared.status.Status.{Status}
use Rattle.osek_base.specs.System.{System, instruction_at, priority_of}
use Rattle.law_runs.proofs.Lists.{all_weaker, clash, none_some, some_inside}
use Rattle.law_windows.specs.Work.{goes_at}
use Rattle.law_costs.specs.Left.{Weights, is_off, of_all_alarms}
use Rattle.law_costs.specs.Paying.{is_upper}
use Rattle.law_nodes.specs.Early.{freed_early}
use Rattle.law_nodes.specs.Nodes.{Node, Standing, Table, covers, is_beside, is_within}
use Rattle.law_nodes.specs.Prices.{Priced, all_outcomes, highest, is_paid, job_fits, may_count, node_pays, pays_by, routine_fits, section_behind}
use Rattle.law_nodes.specs.Values.{know_no_more, may_have}
use Rattle.law_nodes.proofs.Knowing.{AreValues, may_have_of}
use Rattle.law_nodes.proofs.Standing.{at_is}
use Rattle.law_nodes.proofs.Tests.{first_of, second_of}
use Rattle.analysis_nodes.specs.declared.graph.Graph.{Graph}
use Rattle.analysis_nodes.specs.declared.graph.Links.{Links}
use Rattle.analysis_nodes.specs.declared.graph.Way.{Way}
use Rattle.analysis_nodes.specs.declared.node.Node.{Node as Kept}
use Rattle.analysis_nodes.specs.Graph.{AreCoveredBy, AreWays, IsCoveredBy, IsGraph, IsLinked, IsWay, table_of}
use Rattle.analysis_nodes.specs.Laws.{OutcomesAreAll}
use Rattle.analysis_nodes.specs.Nodes.{node_by}
use Rattle.analysis_nodes.specs.declared.outcome.Start.{Start}
use Rattle.analysis_nodes.specs.Outcomes.{Outcome, cost_of_alarm, cost_of_start, outcomes, outcomes_by}
use Rattle.analysis_bounds.specs.declared.level.Level.{Level}
use Rattle.analysis_bounds.specs.Checks.{AreFitting, AreWithin, BeginsWithEnough, Fits, HasPrices, IsEnough, IsWithin, Pays, beside, cost_of_way, freed_at, freed_on, freed_where, is_counted, is_lower, left_of, priced_at}
use Rattle.analysis_bounds.specs.Levels.{event_costs_of, numbered, priced, weights_of}
use Rattle.analysis_bounds.proofs.FreeLemmas.{Frees, all_free}

-- ---- a node that covers another is the same but for registers

abbrev values_for : List (Option ℕ) → List ℕ
values_for [] = []
values_for (o ∷ os) = unwrap_or o 0 ∷ values_for os

are_values : (os : List (Option ℕ)) → AreValues os (values_for os)
are_values [] = tt
are_values (None ∷ os) = (tt, are_values os)
are_values (Some u ∷ os) = (refl, are_values os)

abbrev standing_by : Node → List ℕ → Standing
standing_by n values =
    record {
      owner = n.owner;
      switch = n.switch;
      held = n.held;
      waits_for = n.waits_for;
      context = record { place = n.place; registers = values };
    }

pub covering_is : (m n : Node) → covers m n ≡ true
    → m ≡ record n { registers = m.registers; used = m.used }
covering_is m n over =
    (at_is m (standing_by n (values_for m.registers))
    (and_from (is_beside m n) (may_have m.registers (values_for m.registers))
    (and_parts (is_beside m n) (know_no_more m.registers n.registers)
    (and_parts (is_beside m n && know_no_more m.registers n.registers) (is_within n.used m.used)
    over).0).0
    (may_have_of m.registers (values_for m.registers) (are_values m.registers)))).0

-- ---- by number

pub mapped : {X Y : Type 0} (f : X → Y) (xs : List X) (i : ℕ) (y : Y)
    → slice_get (map f xs) i ≡ Some y → (x : X) × (slice_get xs i ≡ Some x) × (f x ≡ y)
mapped f [] i y h = absurd (none_some y h)
mapped f (x ∷ xs) zero y h = (x, refl, some_inside (f x) y h)
mapped f (x ∷ xs) (suc i) y h = mapped f xs i y h

pub also_there : {X Y : Type 0} (xs : List X) (ys : List Y) (i : ℕ) (x : X)
    → length ys ≡ length xs → slice_get xs i ≡ Some x → (y : Y) × (slice_get ys i ≡ Some y)
also_there [] ys i x same h = absurd (none_some x h)
also_there (z ∷ xs) [] i x same h = absurd (omega (arith, same))
also_there (z ∷ xs) (y ∷ ys) zero x same h = (y, refl)
also_there (z ∷ xs) (y ∷ ys) (suc i) x same h = also_there xs ys i x (omega (arith, same)) h

pub priced_any : (test : Priced → Bool) (table : Table) (prices : List ℕ) (i : ℕ) (n : Node)
    (price : ℕ) → slice_get table i ≡ Some n → slice_get prices i ≡ Some price
    → test (record { node = n; cost = price }) ≡ true
    → list_any test (priced table prices) ≡ true
priced_any test [] prices i n price there paid passes = absurd (none_some n there)
priced_any test (m ∷ table) [] i n price there paid passes = absurd (none_some price paid)
priced_any test (m ∷ table) (k ∷ prices) zero n price there paid passes =
    let same = some_inside m n there in
    let cost = some_inside k price paid in
    first_of (test (record { node = m; cost = k })) (list_any test (priced table prices))
    (ap test (λ i. record { node = same i; cost = cost i }) ∙ passes)
priced_any test (m ∷ table) (k ∷ prices) (suc i) n price there paid passes =
    second_of (test (record { node = m; cost = k })) (list_any test (priced table prices))
    (priced_any test table prices i n price there paid passes)

pub unless_true : (b x : Bool) → (b ≡ true → x ≡ true) → (not b || x) ≡ true
unless_true true x h = h refl
unless_true false x h = refl

-- ---- as much more on both sides

module _ (more over most room besides : ℕ) (more_is : over ≤ more + besides)
    (most_is : room ≡ most + besides) where
  more_fits : (x : ℕ) → nat_le (x + more) most ≡ true → nat_le (x + over) room ≡ true
  more_fits x h =
      le-leb (x + over) room (omega (arith, more_is, most_is, leb-true (x + more) most h))

  more_freed : (x freed : ℕ) → nat_le (x + more) (most + freed) ≡ true
      → nat_le (x + over) (room + freed) ≡ true
  more_freed x freed h =
      le-leb (x + over) (room + freed)
      (omega (arith, more_is, most_is, leb-true (x + more) (most + freed) h))

-- who sets an alarm where none pays
none_set : (start : Start) → cost_of_alarm (numbered []) start ≡ 0
none_set Start.Nothing = refl
none_set (Start.Activates t) = refl
none_set (Start.Sets t m) = refl
none_set (Start.SetsAlarm a) = refl

module _ (S : System) (g : Graph) (level : Level) (has : HasPrices g level) where
  abbrev prices : List Priced
  prices = priced (table_of g) level.prices.items

  abbrev p : ℕ
  p = level.priority

  abbrev c : Weights
  c = weights_of level

  abbrev held : ℕ → ℕ → ℕ
  held = (event_costs_of level).held

  -- ---- next nodes

  next_paid : (owner : Owner) (more most other number : ℕ) (m : Node)
      → IsWithin S g level owner more most number → IsCoveredBy (table_of g) number m
      → is_counted owner S p m ≡ true → most ≤ other → is_paid prices more other m ≡ true
  next_paid owner more most other number m within covered counts less =
      let kept = mapped node_by g.nodes.items number covered.node covered.stands in
      let price = also_there g.nodes.items level.prices.items number kept.0 has kept.1 in
      priced_any (λ q. covers q.node m && nat_le (q.cost + more) other) (table_of g)
      level.prices.items number covered.node price.0 covered.stands price.1
      (and_from (covers covered.node m) (nat_le (price.0 + more) other) covered.covers_it
      (raised price.0
      (within kept.0 price.0 kept.1 price.1
      (ap (is_counted owner S p) kept.2 ∙ counted owner covered.node covered.covers_it counts))))
    where
      raised : (price : ℕ) → nat_le (price + more) most ≡ true
          → nat_le (price + more) other ≡ true
      raised price h =
          le-leb (price + more) other (omega (arith, less, leb-true (price + more) most h))

      counted : (who : Owner) (n : Node) → covers n m ≡ true → is_counted who S p m ≡ true
          → is_counted who S p n ≡ true
      counted (Owner.Task t) n over k = ap (may_count S p) (covering_is n m over) ∙ k
      counted (Owner.Routine i) n over k = refl

  -- each that may count, which has so much room by the law at least
  abbrev HaveRoom : Owner → (Node → ℕ) → ℕ → Table → Type 0
  HaveRoom owner room most next =
      AllByRecursion (λ m. is_counted owner S p m ≡ true → most ≤ room m) next

  next_fit : (owner : Owner) (room : Node → ℕ) (more most : ℕ) (numbers : List ℕ) (next : Table)
      → AreCoveredBy (table_of g) numbers next
      → AreWithin S g level owner more most numbers (length numbers)
      → HaveRoom owner room most next
      → list_all (λ m. not (is_counted owner S p m) || is_paid prices more (room m) m) next ≡ true
  next_fit owner room more most [] [] covered within have = refl
  next_fit owner room more most [] (m ∷ next) covered within have = absurd covered
  next_fit owner room more most (number ∷ numbers) [] covered within have = absurd covered
  next_fit owner room more most (number ∷ numbers) (m ∷ next) covered within have =
      and_from (not (is_counted owner S p m) || is_paid prices more (room m) m)
      (list_all (λ k. not (is_counted owner S p k) || is_paid prices more (room k) k) next)
      (unless_true (is_counted owner S p m) (is_paid prices more (room m) m)
      (λ counts.
      next_paid owner more most (room m) number m (within 0 (omega arith)) covered.0 counts
      (have.0 counts)))
      (next_fit owner room more most numbers next covered.1
      (λ place low. within (suc place) (omega (arith, low))) have.1)

  -- ---- ways

  -- what a way leaves, with what is started and set and perhaps more
  record FitsBy (n : Node) (numbers : List ℕ) (more most freed : ℕ) : Type 0 where
    by_next : AreWithin S g level n.owner more (most + freed) numbers (length numbers)
    by_less : nat_le (left_of n.owner S p c n + more) most ≡ true

  fits_by : (n : Node) (w : Way) (alarms : List ℕ) (most freed : ℕ) (start : Start)
      → w.start ≡ start → Fits S g level n w alarms most freed
      → FitsBy n w.next.items (cost_of_way level alarms start) most
      (freed_where w.refusal freed)
  fits_by n w alarms most freed start same fits =
      subst
      (λ k. FitsBy n w.next.items (cost_of_way level alarms k) most
      (freed_where w.refusal freed))
      same (record { by_next = fits.all_next; by_less = fits.all_less })

  fits_more : (n : Node) (numbers : List ℕ) (more over most room besides freed : ℕ)
      → over ≤ more + besides → room ≡ most + besides
      → FitsBy n numbers more most freed → FitsBy n numbers over room freed
  fits_more n numbers more over most room besides freed more_is most_is fits = record {
    by_next = λ place low m price there paid counts.
        more_freed more over most room besides more_is most_is price freed
        (fits.by_next place low m price there paid counts);
    by_less =
        more_fits more over most room besides more_is most_is (left_of n.owner S p c n)
        fits.by_less;
  }

  -- of who may count, one less than the price is enough
  fits_one : (n : Node) (w : Way) (most freed : ℕ) (start : Start) → w.start ≡ start
      → Fits S g level n w level.alarms.items most freed
      → FitsBy n w.next.items
      (cost_of_start c start + (cost_of_alarm c.of_alarm start + 1)) (suc most)
      (freed_where w.refusal freed)
  fits_one n w most freed start same fits =
      fits_more n w.next.items (cost_of_way level level.alarms.items start)
      (cost_of_start c start + (cost_of_alarm c.of_alarm start + 1)) most (suc most) 1
      (freed_where w.refusal freed) (omega arith) (omega arith)
      (fits_by n w level.alarms.items most freed start same fits)

  -- .. and of a lower job, all alarms may be set besides
  fits_besides : (n : Node) (w : Way) (most : ℕ) (start : Start) → w.start ≡ start
      → level.at_begin ≡ most + of_all_alarms S c → Fits S g level n w [] most 0
      → FitsBy n w.next.items (cost_of_start c start + of_all_alarms S c) level.at_begin
      (freed_where w.refusal 0)
  fits_besides n w most start same begin fits =
      fits_more n w.next.items (cost_of_way level [] start)
      (cost_of_start c start + of_all_alarms S c) most level.at_begin (of_all_alarms S c)
      (freed_where w.refusal 0)
      (let none = none_set start in
      omega (arith, none))
      begin (fits_by n w [] most 0 start same fits)

  -- .. of a lower routine, whatever it starts, the section besides
  fits_lower : (n : Node) (w : Way) (most : ℕ) (start : Start) → w.start ≡ start
      → level.at_begin ≡ most + (c.of_section + of_all_alarms S c)
      → Fits S g level n w [] most 0
      → FitsBy n w.next.items (c.of_section + of_all_alarms S c) level.at_begin
      (freed_where w.refusal 0)
  fits_lower n w most start same begin fits =
      fits_more n w.next.items (cost_of_way level [] start)
      (c.of_section + of_all_alarms S c) most level.at_begin (c.of_section + of_all_alarms S c)
      (freed_where w.refusal 0) (omega arith) begin (fits_by n w [] most 0 start same fits)

  section_left : (off high : Bool)
      → cond (off && high) 0 (cond off level.section 0)
      ≡ cond (off && not (off && high)) level.section 0
  section_left true true = refl
  section_left true false = refl
  section_left false high = refl

  -- the same of a job, and of a routine
  job_fits_by : (t : ℕ) (n : Node) (by : Node → ℕ) (numbers : List ℕ) (more most freed : ℕ)
      (next : Table) → n.owner ≡ Owner.Task t → AreCoveredBy (table_of g) numbers next
      → AllByRecursion (λ m. may_count S p m ≡ true → freed ≤ by m) next
      → FitsBy n numbers more most freed → job_fits S p c by prices n more most next ≡ true
  job_fits_by t n by numbers more most freed next is covered free fits =
      and_from (list_all (λ m. not (may_count S p m) || is_paid prices more (most + by m) m) next)
      (nat_le (section_behind S p c n + more) most)
      (next_fit (Owner.Task t) (λ m. most + by m) more (most + freed) numbers next covered
      (subst (λ who. AreWithin S g level who more (most + freed) numbers (length numbers)) is
      fits.by_next)
      (all_weaker (λ m. may_count S p m ≡ true → freed ≤ by m)
      (λ m. may_count S p m ≡ true → most + freed ≤ most + by m) next
      (λ m h counts. let less = h counts in omega (arith, less)) free))
      (ap (λ left. nat_le (left + more) most)
      (section_left (is_off n.switch) (nat_le p (highest S n.owner n.held))
      ∙ ap (λ who. left_of who S p c n) (sym is))
      ∙ fits.by_less)

  routine_fits_by : (i : ℕ) (n : Node) (numbers : List ℕ) (more most freed : ℕ) (next : Table)
      → n.owner ≡ Owner.Routine i → freed ≡ 0 → AreCoveredBy (table_of g) numbers next
      → FitsBy n numbers more most freed → routine_fits prices more most next ≡ true
  routine_fits_by i n numbers more most freed next is none covered fits =
      and_from (list_all (is_paid prices more most) next) (nat_le more most)
      (next_fit (Owner.Routine i) (λ m. most) more (most + freed) numbers next covered
      (subst (λ who. AreWithin S g level who more (most + freed) numbers (length numbers)) is
      fits.by_next)
      (rooms next))
      (le-leb more most
      (omega (
        arith,
        leb-true (left_of (Owner.Routine i) S p c n + more) most
            (ap (λ who. nat_le (left_of who S p c n + more) most) (sym is) ∙ fits.by_less),
      )))
    where
      rooms : (table : Table) → HaveRoom (Owner.Routine i) (λ m. most) (most + freed) table
      rooms [] = tt
      rooms (m ∷ table) = (λ counts. omega (arith, none), rooms table)

  -- what is freed where nothing is
  freed_zero : (o : Option Status) (freed : ℕ) → freed ≡ 0 → freed_where o freed ≡ 0
  freed_zero None freed none = none
  freed_zero (Some refusal) freed none = refl

  none_free : (freed : ℕ) → freed ≡ 0 → (table : Table)
      → AllByRecursion (λ m. may_count S p m ≡ true → freed ≤ 0) table
  none_free freed none [] = tt
  none_free freed none (m ∷ table) = (λ counts. omega (arith, none), none_free freed none table)

  -- what the steps of an outcome may cost more by the law
  abbrev FreesBy : Owner → Node → Outcome → Type 0
  FreesBy (Owner.Task t) n o = Frees S level t n (instruction_at S n.owner n.place) o
  FreesBy (Owner.Routine i) n o = Unit {0}

  -- a way pays
  module _ (n : Node) (ways : List Way) (price : ℕ) (enough : IsEnough S g level n ways price)
      (begins : BeginsWithEnough S g level n ways) where
    abbrev what : Instr
    what = instruction_at S n.owner n.place

    abbrev Passes : Owner → Outcome → Type 0
    Passes who o =
        pays_by who S p c held what prices (record { node = n; cost = price }) o.next
        (cost_of_start c o.start) (cost_of_alarm c.of_alarm o.start)
        ≡ true

    job_pays : (t : ℕ) → n.owner ≡ Owner.Task t → (place : ℕ) → place < length ways → (w : Way)
        → slice_get ways place ≡ Some w → (o : Outcome) → IsWay (table_of g) w o
        → Frees S level t n what o → Passes (Owner.Task t) o
    job_pays t is place low w there o way free =
        and_from (not (may_count S p n) || job_fits S p c early prices n own price o.next)
        (nat_le p (priority_of S t)
        || job_fits S p c (λ m. 0) prices n lower level.at_begin o.next)
        (unless_true (may_count S p n) (job_fits S p c early prices n own price o.next) takes)
        (or_lower (nat_le p (priority_of S t)) refl)
      where
        own : ℕ
        own = cost_of_start c o.start + (cost_of_alarm c.of_alarm o.start + 1)

        lower : ℕ
        lower = cost_of_start c o.start + of_all_alarms S c

        early : Node → ℕ
        early m = freed_early S p held t what n m

        freed : ℕ
        freed = freed_at S level n

        free_by : AllByRecursion
            (λ m. may_count S p m ≡ true → freed_where w.refusal freed ≤ early m) o.next
        free_by =
            subst
            (λ k. AllByRecursion (λ m. may_count S p m ≡ true → k ≤ early m) o.next)
            (ap (λ r. freed_where r (freed_on (Owner.Task t) S level what n.used))
            (sym way.same_refusal)
            ∙ ap (λ who. freed_where w.refusal (freed_on who S level what n.used)) (sym is))
            free

        takes : may_count S p n ≡ true → job_fits S p c early prices n own price o.next ≡ true
        takes counts =
            let room = enough (ap (λ who. is_counted who S p n) is ∙ counts) in
            subst (λ cost. job_fits S p c early prices n own cost o.next ≡ true) (sym room.1)
            (job_fits_by t n early w.next.items own (suc room.0) (freed_where w.refusal freed)
            o.next is way.next_covered free_by
            (fits_one n w room.0 freed o.start way.same_start (room.2 place low w there)))

        or_lower : (b : Bool) → nat_le p (priority_of S t) ≡ b
            → (b || job_fits S p c (λ m. 0) prices n lower level.at_begin o.next) ≡ true
        or_lower true upper = refl
        or_lower false upper =
            let room = begins (ap (is_lower S p) is ∙ ap not upper) in
            job_fits_by t n (λ m. 0) w.next.items lower level.at_begin
            (freed_where w.refusal 0) o.next is way.next_covered
            (none_free (freed_where w.refusal 0) (freed_zero w.refusal 0 refl) o.next)
            (fits_besides n w room.0 o.start way.same_start
            (room.1 ∙ ap (λ who. room.0 + beside who S c) is) (room.2 place low w there))

    routine_pays : (i : ℕ) → n.owner ≡ Owner.Routine i → (place : ℕ) → place < length ways
        → (w : Way) → slice_get ways place ≡ Some w → (o : Outcome) → IsWay (table_of g) w o
        → Passes (Owner.Routine i) o
    routine_pays i is place low w there o way =
        and_from (routine_fits prices own price o.next)
        (goes_at S p i || routine_fits prices lower level.at_begin o.next) takes
        (or_lower (goes_at S p i) refl)
      where
        own : ℕ
        own = cost_of_start c o.start + (cost_of_alarm c.of_alarm o.start + 1)

        lower : ℕ
        lower = c.of_section + of_all_alarms S c

        takes : routine_fits prices own price o.next ≡ true
        takes =
            let room = enough (ap (λ who. is_counted who S p n) is) in
            subst (λ cost. routine_fits prices own cost o.next ≡ true) (sym room.1)
            (routine_fits_by i n w.next.items own (suc room.0)
            (freed_where w.refusal (freed_at S level n)) o.next is
            (freed_zero w.refusal (freed_at S level n)
            (ap (λ who. freed_on who S level what n.used) is))
            way.next_covered
            (fits_one n w room.0 (freed_at S level n) o.start way.same_start
            (room.2 place low w there)))

        or_lower : (b : Bool) → goes_at S p i ≡ b
            → (b || routine_fits prices lower level.at_begin o.next) ≡ true
        or_lower true goes = refl
        or_lower false goes =
            let room = begins (ap (is_lower S p) is ∙ ap not goes) in
            routine_fits_by i n w.next.items lower level.at_begin (freed_where w.refusal 0) o.next
            is (freed_zero w.refusal 0 refl) way.next_covered
            (fits_lower n w room.0 o.start way.same_start
            (room.1 ∙ ap (λ who. room.0 + beside who S c) is) (room.2 place low w there))

    way_pays : (who : Owner) → n.owner ≡ who → (place : ℕ) → place < length ways → (w : Way)
        → slice_get ways place ≡ Some w → (o : Outcome) → IsWay (table_of g) w o
        → FreesBy who n o → Passes who o
    way_pays (Owner.Task t) is place low w there o way free =
        job_pays t is place low w there o way free
    way_pays (Owner.Routine i) is place low w there o way free =
        routine_pays i is place low w there o way

  -- ---- all ways of a node

  all_ways : (Free : Outcome → Type 0) (test : Outcome → Bool) (ways : List Way)
      (os : List Outcome) → AreWays (table_of g) ways os → AllByRecursion Free os
      → ((place : ℕ) → place < length ways → (w : Way) → slice_get ways place ≡ Some w
      → (o : Outcome) → IsWay (table_of g) w o → Free o → test o ≡ true)
      → list_all test os ≡ true
  all_ways Free test [] [] are free each = refl
  all_ways Free test [] (o ∷ os) are free each = absurd are
  all_ways Free test (w ∷ ways) [] are free each = absurd are
  all_ways Free test (w ∷ ways) (o ∷ os) are free each =
      and_from (test o) (list_all test os) (each 0 (omega arith) w refl o are.0 free.0)
      (all_ways Free test ways os are.1 free.1
      (λ place low x there. each (suc place) (omega (arith, low)) x there))

  frees_all : (n : Node) (who : Owner) → n.owner ≡ who
      → AllByRecursion (FreesBy who n) (outcomes_by S (instruction_at S n.owner n.place) n)
  frees_all n (Owner.Task t) is = all_free S level t n is (instruction_at S n.owner n.place)
  frees_all n (Owner.Routine i) is =
      units (outcomes_by S (instruction_at S n.owner n.place) n)
    where
      units : (os : List Outcome) → AllByRecursion (FreesBy (Owner.Routine i) n) os
      units [] = tt
      units (o ∷ os) = (tt, units os)

  pub pays_by_ways : (n : Node) (l : Links) (price : ℕ) → OutcomesAreAll
      → IsLinked S (table_of g) n l → IsEnough S g level n l.ways.items price
      → BeginsWithEnough S g level n l.ways.items
      → node_pays S p c held prices (record { node = n; cost = price }) ≡ true
  pays_by_ways n l price all_are linked enough begins =
      go (is_some n.waits_for) refl linked.ways_told
    where
      pays : Outcome → Bool
      pays o =
          pays_by n.owner S p c held (instruction_at S n.owner n.place) prices
          (record { node = n; cost = price }) o.next (cost_of_start c o.start)
          (cost_of_alarm c.of_alarm o.start)

      go : (b : Bool) → is_some n.waits_for ≡ b
          → AreWays (table_of g) l.ways.items
          (cond b [] (outcomes_by S (instruction_at S n.owner n.place) n))
          → (b || all_outcomes S c
          (pays_by n.owner S p c held (instruction_at S n.owner n.place) prices
          (record { node = n; cost = price }))
          (instruction_at S n.owner n.place) n)
          ≡ true
      go true waits are = refl
      go false waits are =
          all_are S c
          (pays_by n.owner S p c held (instruction_at S n.owner n.place) prices
          (record { node = n; cost = price }))
          (instruction_at S n.owner n.place) n
          ∙ all_ways (FreesBy n.owner n) pays l.ways.items
          (outcomes_by S (instruction_at S n.owner n.place) n) are (frees_all n n.owner refl)
          (way_pays n l.ways.items price enough begins n.owner refl)

-- What is checked of all that is told is what the law asks of an analysis.
use Rattle.std.proofs.Common.{ℕ, zero, suc, ◌+◌, ◌≡◌, ◌<◌, ◌≤◌, ◌⊎◌, inl, inr, Bool, true, false, cond, ◌&&◌, ◌||◌, not, nat_le, nat_lt, List, [], ◌∷◌, map, length, slice_get, refl, sym, ◌∙◌, ap, subst, arith, not-suc-le-zero, le_of_suc-le-suc}
use Rattle.std.specs.Prelude.{Option, Some, None, Contains, is_some, slice_index_or}
use Rattle.std.specs.List.{list_any}
use Rattle.std.proofs.lemmas.Bool.{and_parts, leb-true, lt-ltb, true≢false}
use Rattle.osek_base.specs.declared.instr.Instr.{Instr}
use Rattle.osek_base.specs.declared.status.Status.{Status}
use Rattle.osek_base.specs.Service.{may_take}
use Rattle.osek_base.specs.System.{System, instruction_at, priority_of}
use Rattle.osek_base.specs.Types.{ServiceCall}
use Rattle.arrival_rules.specs.declared.rule.ArrivalRule.{ArrivalRule}
use Rattle.arrival_rules.specs.Rules.{no_rule, rule_at}
use Rattle.law_runs.proofs.Lists.{clash, none_some, some_inside}
use Rattle.law_future.specs.Spans.{resource_of}
use Rattle.view_measures.specs.declared.measure.Measure.{Measure}
use Rattle.view_measures.specs.Measures.{figure}
use Rattle.search_peaks.specs.Peaks.{Peaks, told}
use Rattle.law_bounds.specs.Ending.{EndsWithin}
use Rattle.law_windows.specs.Analysis.{IsBoundOf}
use Rattle.law_windows.specs.Losses.{KeepsApart, NoneIsLost}
use Rattle.law_windows.specs.Work.{goes_at}
use Rattle.law_nodes.specs.Nodes.{Node, Table, covers, is_beside, is_within, woken_node}
use Rattle.law_nodes.specs.Services.{answers}
use Rattle.law_nodes.specs.Values.{know_no_more}
use Rattle.law_nodes.proofs.Tests.{unless}
use Rattle.law_analysis.specs.Told.{AreRefusalsTold, IsCovered, IsRefusalTold, LosesNone, StartsBefore, is_shutdown, may_end}
use Rattle.analysis_nodes.specs.declared.graph.Graph.{Graph}
use Rattle.analysis_nodes.specs.declared.graph.Links.{Links}
use Rattle.analysis_nodes.specs.declared.graph.Way.{Way}
use Rattle.analysis_nodes.specs.declared.node.Node.{Node as Kept}
use Rattle.analysis_nodes.specs.Graph.{AreWays, IsCoveredBy, IsGraph, IsLinked, IsWoken, table_of}
use Rattle.analysis_nodes.specs.Nodes.{node_by}
use Rattle.analysis_nodes.specs.Outcomes.{outcome_by, outcomes, outcomes_by}
use Rattle.analysis_bounds.specs.declared.levels.TheConstants.{CAP}
use Rattle.analysis_bounds.specs.Levels.{numbered}
use Rattle.analysis_bounds.specs.Told.{AreKeptApart, HoldsAreTold, IsSomeMost, KeepsRoutineApart, LossIsTold, NodeIsTold, NodesAreTold, NoneEnds, TimesAreTold, WayIsTold, ends, is_no_less}
use Rattle.analysis_bounds.specs.Windows.{AreMosts}
use Rattle.analysis_bounds.proofs.RefusalLemmas.{Among, among_of, answers_less}
use Rattle.analysis_bounds.proofs.WayLemmas.{also_there, covering_is, mapped}

-- what is no less than a number below the cap covers it
pub covered : (number other : ℕ) → is_no_less number other ≡ true → number < CAP
    → IsCovered CAP other number
covered number other h low =
    let less =
    leb-true other number
    (unless (nat_lt number CAP) (nat_le other number) (lt-ltb number CAP low) h) in
    (omega (arith, low, less), less)

pub there : (rules : List ArrivalRule) (n : ℕ) (rule : ArrivalRule) → slice_get rules n ≡ Some rule
    → rule_at rules n ≡ rule
there [] n rule h = absurd (none_some rule h)
there (r ∷ rules) zero rule h = some_inside r rule h
there (r ∷ rules) (suc n) rule h = there rules n rule h

module _ (S : System) (mode : ℕ) (rules : List ArrivalRule) (peaks : Peaks) (mosts : List ℕ)
    (bounds : AreMosts S mode rules CAP mosts) where
  pub response_told : (k : ℕ) → TimesAreTold S peaks mosts k
      → told peaks (figure Measure.Response k) < CAP
      → EndsWithin S mode rules (told peaks (figure Measure.Response k)) k
  response_told k times low =
      let has = times.response low in
      let is = has.3 has.2 in
      let bound =
      bounds (priority_of S k) is.0 (subst (λ n. n < CAP) (sym is.1) has.2) in
      λ arrivals n since job keep over same ready.
      (let soon = bound.tasks k (omega arith) arrivals n since job keep over same ready in
      let value = is.1 in
      let less = has.1 in
      omega (arith, soon, value, less))

  -- ---- routines, by the least of their levels

  module _ (i most : ℕ) (inside : i < length S.routines)
      (is_most : IsSomeMost S mosts i most) where
    pub starts_before : most < CAP → StartsBefore S mode rules most i
    starts_before low =
        let is = is_most low in
        let bound = bounds is.0 is.1 (subst (λ n. n < CAP) (sym is.2) low) in
        λ arrivals n since keep over first pends.
        (let soon =
        (bound.responses arrivals keep).routines n since i over inside is.3 first pends in
        let value = is.2 in
        omega (arith, soon, value))

    pub loss_told : LossIsTold peaks rules most i
        → LosesNone S mode rules i ⊎ (1 ≤ told peaks (figure Measure.Loss i))
    loss_told (inl some) = inr some
    loss_told (inr (low, (n, rule, stands, (same, apart)))) =
        inl
        (λ arrivals keep.
        subst (NoneIsLost S mode arrivals) (ap (λ (r : ArrivalRule). r.routine) at ∙ same)
        (bound.losses arrivals n keep
        (subst (λ k. k < length S.routines)
        (sym (ap (λ (r : ArrivalRule). r.routine) at ∙ same)) inside)
        (ap (goes_at S is.0) (ap (λ (r : ArrivalRule). r.routine) at ∙ same) ∙ is.3)
        (subst (λ k. KeepsApart (rule_at rules n) k) (sym is.2)
        (subst (λ r. KeepsApart r most) (sym at) apart))))
      where
        is : (p : ℕ) × (p < length mosts) × (numbered mosts p ≡ most) × (goes_at S p i ≡ true)
        is = is_most low

        bound : IsBoundOf S mode rules is.0 (numbered mosts is.0)
        bound = bounds is.0 is.1 (subst (λ k. k < CAP) (sym is.2) low)

        at : rule_at rules n ≡ rule
        at = there rules n rule stands

-- ---- who may end the run

pub none_ends : (S : System) (g : Graph) → NoneEnds S g (length g.nodes.items)
    → may_end S (table_of g) ≡ false
none_ends S g each = go g.nodes.items each
  where
    go : (nodes : List Kept)
        → ((number : ℕ) → number < length nodes → (n : Kept) → slice_get nodes number ≡ Some n
        → ends S (node_by n) ≡ false)
        → list_any (ends S) (map node_by nodes) ≡ false
    go [] all = refl
    go (n ∷ nodes) all =
        ap (λ b. b || list_any (ends S) (map node_by nodes)) (all 0 (omega arith) n refl)
        ∙ go nodes (λ number low. all (suc number) (omega (arith, low)))

-- ---- refusals

standing : {X : Type 0} (xs : List X) (k : ℕ) (x : X) → k < length xs
    → slice_index_or xs k x ≡ x → slice_get xs k ≡ Some x
standing [] k x low is = absurd (not-suc-le-zero low)
standing (y ∷ xs) zero x low is = ap Some is
standing (y ∷ xs) (suc k) x low is = standing xs k x (le_of_suc-le-suc low) is

module _ (S : System) (g : Graph) (graph : IsGraph S g) (peaks : Peaks)
    (all_told : NodesAreTold g peaks (length g.nodes.items)) where
  -- the way of a refusal is told
  way_told : (n : Node) (call : ServiceCall) (e : Status) (ways : List Way)
      (some : List (Option Status)) → AreWays (table_of g) ways (map (outcome_by S n call) some)
      → NodeIsTold peaks n ways (length ways) → Among (Some e) some → IsRefusalTold peaks n e
  way_told n call e ways [] are each among = absurd among
  way_told n call e [] (o ∷ some) are each among = absurd are
  way_told n call e (w ∷ ways) (o ∷ some) are each (inl here) =
      each 0 (omega arith) w refl e (are.0.same_refusal ∙ here)
  way_told n call e (w ∷ ways) (o ∷ some) are each (inr later) =
      way_told n call e ways some are.1 (λ place low. each (suc place) (omega (arith, low))) later

  -- at a node that doesn't wait
  ready_told : (number : ℕ) (n : Node) (call : ServiceCall) (e : Status)
      → slice_get (table_of g) number ≡ Some n → is_some n.waits_for ≡ false
      → instruction_at S n.owner n.place ≡ Instr.Service call → Among (Some e) (answers S n call)
      → IsRefusalTold peaks n e
  ready_told number n call e stands ready calls among =
      let kept = mapped node_by g.nodes.items number n stands in
      let links = also_there g.nodes.items g.links.items number kept.0 graph.count kept.1 in
      let linked = graph.linked number n links.0 stands links.1 in
      way_told n call e links.0.ways.items (answers S n call)
      (subst (AreWays (table_of g) links.0.ways.items)
      (ap (λ b. cond b [] (outcomes_by S (instruction_at S n.owner n.place) n)) ready
      ∙ ap (λ what. outcomes_by S what n) calls)
      linked.ways_told)
      (subst (λ m. NodeIsTold peaks m links.0.ways.items (length links.0.ways.items)) kept.2
      (all_told number (within g.nodes.items number kept.0 kept.1) kept.0 links.0 kept.1 links.1))
      among
    where
      within : (xs : List Kept) (k : ℕ) (x : Kept) → slice_get xs k ≡ Some x → k < length xs
      within [] k x h = absurd (none_some x h)
      within (y ∷ xs) zero x h = omega arith
      within (y ∷ xs) (suc k) x h =
          let low = within xs k x h in
          omega (arith, low)

  -- at one that waits: the one at which it goes on may have the same
  waiting_told : (number : ℕ) (n : Node) (call : ServiceCall) (e : Status)
      → slice_get (table_of g) number ≡ Some n → is_some n.waits_for ≡ true
      → instruction_at S n.owner n.place ≡ Instr.Service call → Among (Some e) (answers S n call)
      → IsRefusalTold peaks n e
  waiting_told number n call e stands waits calls among =
      let kept = mapped node_by g.nodes.items number n stands in
      let links = also_there g.nodes.items g.links.items number kept.0 graph.count kept.1 in
      let linked = graph.linked number n links.0 stands links.1 in
      go links.0.woken (linked.woken_told waits)
    where
      go : (woken : Option ℕ) → IsWoken (table_of g) woken n → IsRefusalTold peaks n e
      go None is = absurd is
      go (Some other) is =
          let same = covering_is is.node (woken_node n) is.covers_it in
          let less =
          (and_parts (is_beside is.node (woken_node n))
          (know_no_more is.node.registers n.registers)
          (and_parts
          (is_beside is.node (woken_node n) && know_no_more is.node.registers n.registers)
          (is_within (woken_node n).used is.node.used) is.covers_it).0).1 in
          let told_there =
          ready_told other is.node call e is.stands
          (ap (λ (m : Node). is_some m.waits_for) same)
          (ap (λ (m : Node). instruction_at S m.owner m.place) same ∙ calls)
          (subst (λ m. Among (Some e) (answers S m call)) (sym same)
          (answers_less S (woken_node n) is.node.registers call (Some e) less among)) in
          let told_so = subst (λ (m : Node). IsRefusalTold peaks m e) same told_there in
          record { service = told_so.service; owner = told_so.owner }

  pub refusals_told : AreRefusalsTold S (table_of g) peaks
  refusals_told n call e has calls among =
      go (is_some n.waits_for) refl
    where
      stands : slice_get (table_of g) has.0 ≡ Some n
      stands = standing (table_of g) has.0 n has.1 has.2

      go : (b : Bool) → is_some n.waits_for ≡ b → IsRefusalTold peaks n e
      go true waits =
          waiting_told has.0 n call e stands waits calls
          (among_of (Some e) (answers S n call) among)
      go false ready =
          ready_told has.0 n call e stands ready calls
          (among_of (Some e) (answers S n call) among)

-- where who is at a node may end the run, it is noted
pub noted_end : (over may : Bool) → (over ≡ false → may ≡ false) → may ≡ true → over ≡ true
noted_end true may none ended = refl
noted_end false may none ended = clash (sym ended ∙ none refl)

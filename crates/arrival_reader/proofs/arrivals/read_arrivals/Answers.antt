use Rattle.std.proofs.Common.{◌<◌, ◌==◌, ◌&&◌, ◌≡◌, ℕ, ◌+◌, ◌-◌, ◌≤◌, List, [], ◌∷◌, ◌++◌, true, length, append-nil, refl, sym, arith, le-leb, lt-ltb}
use Rattle.std.proofs.lemmas.Bool.{eqb-true}
use Rattle.std.specs.Bool.{IsTrue}
use Rattle.osek_base.specs.declared.arrivals.Arrival.{Arrival}
use Rattle.osek_base.specs.ArrivalList.{are_in_order, is_arrival_list}
use Rattle.osek_base.specs.Names.{Names}
use Rattle.arrival_reader.specs.ArrivalText.{lines_of, AreRead}
use Rattle.std.specs.List.{All}
use Rattle.std.proofs.lemmas.List.Elements.{All-from_recursion}
use Rattle.osek_base.specs.declared.limits.TheConstants.{MAX_ARRIVALS}
use Rattle.osek_base.specs.System.{System}
use Rattle.osek_base.specs.Proper.{IsProper}
use Rattle.arrival_reader.proofs.TextLemmas.{both_left, both_right}
use Rattle.arrival_reader.proofs.ArrivalLemmas.{routines_known}
use Rattle.arrival_reader.proofs.arrivals.read_arrivals.Goals as goal

nothing_left : (names : Names) (number before : ℕ) (rest : List ℕ) → length rest ≡ 0 → AreRead names number before (lines_of rest) []
nothing_left names number before [] e = tt
nothing_left names number before (b ∷ rest) e = absurd (omega (arith, e))

ordered : (names : Names) (number before : ℕ) (lines : List (List ℕ)) (arrivals : List Arrival)
    → AreRead names number before lines arrivals → are_in_order before arrivals ≡ true
ordered names number before lines [] h = refl
ordered names number before [] (a ∷ arrivals) h = absurd h
ordered names number before (line ∷ lines) (a ∷ arrivals) h =
    rw (
      le-leb before a.tick h.0.ordered,
      lt-ltb a.tick 1000000 (omega (arith, h.0.small)),
      ordered names (number + 1) a.tick lines arrivals h.1,
    ) refl

few : (names : Names) (number before : ℕ) (lines : List (List ℕ)) (arrivals : List Arrival)
    → AreRead names number before lines arrivals → length arrivals ≤ 65537 - number
few names number before lines [] h = omega arith
few names number before [] (a ∷ arrivals) h = absurd h
few names number before (line ∷ lines) (a ∷ arrivals) h =
    omega (arith, h.0.few, few names (number + 1) a.tick lines arrivals h.1)

are_arrivals : (names : Names) (text : List ℕ) (arrivals : List Arrival) → AreRead names 1 0 (lines_of text) (arrivals ++ [])
    → IsTrue (is_arrival_list arrivals)
are_arrivals names text arrivals h =
    let all : AreRead names 1 0 (lines_of text) arrivals = rw (append-nil arrivals) at h in
    rw (
      le-leb (length arrivals) MAX_ARRIVALS (omega (arith, few names 1 0 (lines_of text) arrivals all)),
      ordered names 1 0 (lines_of text) arrivals all,
    ) refl

pub unwrap-requires : goal.unwrap-requires
unwrap-requires c =
    let all = c.lines.invariant.read [] (nothing_left _ _ _ c.lines.rest.now (eqb-true _ 0 (sym c.lines-test.ensures))) in
    c.new.ensures.kept.1 (are_arrivals c.names-names.result.now c.args.text.now c.lines.list.items all)

pub returns-clause-read : goal.returns-clause-read
returns-clause-read c =
    let all = c.lines.invariant.read [] (nothing_left _ _ _ c.lines.rest.now (eqb-true _ 0 (sym c.lines-test.ensures))) in
    let same : c.unwrap.result ≡ c.lines.list.items = rw (c.unwrap.ensures) at c.new.ensures.value in
    rw (same, ← c.names-names.ensures.value, ← append-nil c.lines.list.items) all

named_routines : (S : System) → IsProper S → length S.names.routines ≡ length S.routines
named_routines S p =
    let N = S.names in
    let tasks = length N.tasks == length S.tasks in
    let routines = length N.routines == length S.routines in
    let resources = length N.resources == length S.resources in
    let events = length N.events == length S.events in
    let alarms = length N.alarms == length S.alarms in
    eqb-true _ _
    (both_right tasks routines
    (both_left (tasks && routines) resources
    (both_left (tasks && routines && resources) events (both_left (tasks && routines && resources && events) alarms p.named))))

all_known : (S : System) (names : Names) (text : List ℕ) (arrivals : List Arrival) → IsProper S → names ≡ S.names
    → AreRead names 1 0 (lines_of text) (arrivals ++ []) → All (λ a. a.routine < length S.routines) arrivals
all_known S names text arrivals p e h =
    let read : AreRead S.names 1 0 (lines_of text) arrivals = rw (append-nil arrivals, e) at h in
    let known = All-from_recursion (λ a. a.routine < length S.names.routines) arrivals (routines_known S.names 1 0 (lines_of text) arrivals read) in
    rw (← named_routines S p) known

pub returns-clause-known : goal.returns-clause-known
returns-clause-known c =
    let all = c.lines.invariant.read [] (nothing_left _ _ _ c.lines.rest.now (eqb-true _ 0 (sym c.lines-test.ensures))) in
    let same : c.unwrap.result ≡ c.lines.list.items = rw (c.unwrap.ensures) at c.new.ensures.value in
    rw same
    (all_known c.args.system.now c.names-names.result.now c.args.text.now c.lines.list.items c.names-names.ensures.proper
    c.names-names.ensures.value all)

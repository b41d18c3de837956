use mir.Val.{bool_byte}
use Rattle.std.proofs.Common.{◌≡◌, Bool, true, false, Some, length, refl, sym, ap, ◌∙◌, subst, arith}
use Rattle.std.specs.Prelude.{IfNone}
use Rattle.std.proofs.lemmas.List.{nil_from_length}
use Rattle.search.specs.Levels.{HasLevels}
use Rattle.search.specs.Outcomes.{HasAll}
use Rattle.search.specs.Visited.{AreVisited, Closes, closed_by}
use Rattle.search.proofs.LevelLemmas.{AreUnderWay, behind, first_level, levels_of, levels_stay, none_sooner}
use Rattle.search.proofs.NumberLemmas.{none_left}
use Rattle.search.proofs.SearchLemmas.{all_there, why}
use Rattle.search.proofs.VisitLemmas.{closes_stays}
use Rattle.search.proofs.searching.explore.Goals as goal

is_byte : (b : Bool) → closed_by b ≡ bool_byte b
is_byte true = refl
is_byte false = refl

pub loop-visits-init : goal.loop-visits-init
loop-visits-init g c =
    let nodes = c.args.table.now.nodes.items in
    let numbers = c.args.table.now.agenda in
    let r = g.S.Steps.rules (g.S.Steps.setting c.args.steps.now) in
    let is_noted = g.S.Steps.is_noted c.args.steps.now in
    record {
      setting = refl;
      notes = λ x choice noted. noted;
      first = c.requires.first;
      visited = c.requires.visited;
      level =
          subst (AreUnderWay r is_noted nodes numbers 0) (sym c.open_len.ensures)
          (first_level r is_noted nodes numbers c.requires.first c.requires.visited);
      low = omega arith;
    }

pub returns-in_default-clause-outcome : goal.returns-in_default-clause-outcome
returns-in_default-clause-outcome g c =
    let nodes = c.loop-visits.table.nodes.items in
    let numbers = c.loop-visits.table.agenda in
    let r = g.S.Steps.rules (g.S.Steps.setting c.args.steps.now) in
    let is_noted = g.S.Steps.is_noted c.loop-visits.steps in
    let none = none_left numbers (sym c.in_default.ensures.first) in (
      c.progress.ensures.open_nodes ∙ ap length none,
      subst (HasAll r is_noted) (sym c.progress.ensures.nodes)
          (all_there r is_noted nodes numbers none c.loop-visits.invariant.first c.loop-visits.invariant.visited),
    )

pub visit-requires-clause-visited : goal.visit-requires-clause-visited
visit-requires-clause-visited g c =
    subst (λ s. AreVisited (g.S.Steps.rules s) (g.S.Steps.is_noted c.loop-visits.steps) c.loop-visits.table.nodes.items c.loop-visits.table.agenda)
    (sym c.loop-visits.invariant.setting) c.loop-visits.invariant.visited

pub loop-visits-preserved : goal.loop-visits-preserved
loop-visits-preserved g c =
    let e = c.loop-visits.invariant.setting in
    let r = g.S.Steps.rules (g.S.Steps.setting c.args.steps.now) in
    let before = c.loop-visits.table.nodes.items in
    let numbers = c.loop-visits.table.agenda in
    let after = c.visit.new.table.nodes.items in
    let more = c.visit.new.table.agenda in
    let is_done = c.in_ok-visited.visited.is_done in
    let were_closed : Closes (g.S.Steps.rules (g.S.Steps.setting c.loop-visits.steps)) (g.S.Steps.is_noted c.visit.new.steps) before numbers after more
    (closed_by is_done) =
    subst (λ o. IfNone o (Closes (g.S.Steps.rules (g.S.Steps.setting c.loop-visits.steps)) (g.S.Steps.is_noted c.visit.new.steps) before numbers
    after more (closed_by is_done))) c.in_default-obstacle.is c.in_ok-visited.ensures.closes in
    let closes : Closes r (g.S.Steps.is_noted c.watch.new.self) before numbers after more c.from.result =
    subst (Closes r (g.S.Steps.is_noted c.watch.new.self) before numbers after more) (is_byte is_done ∙ sym c.from.ensures)
    (closes_stays r g.S.Steps.is_noted c.visit.new.steps c.watch.new.self c.watch.ensures.notes before after numbers more (closed_by is_done)
    (subst (λ s. Closes (g.S.Steps.rules s) (g.S.Steps.is_noted c.visit.new.steps) before numbers after more (closed_by is_done)) e were_closed)) in
    record {
      setting = c.watch.ensures.setting ∙ c.in_ok-visited.ensures.setting ∙ e;
      notes = λ x choice noted.
          c.watch.ensures.notes x choice (c.in_ok-visited.ensures.notes x choice (c.loop-visits.invariant.notes x choice noted));
      first = closes.first c.loop-visits.invariant.first;
      visited = closes.visited;
      level =
          behind r g.S.Steps.is_noted c.loop-visits.steps c.watch.new.self
          (λ x choice noted. c.watch.ensures.notes x choice (c.in_ok-visited.ensures.notes x choice noted)) c.kept.ensures
          before after numbers more c.from.result c.loop-visits.level.done c.loop-visits.level.left c.loop-visits.invariant.level closes
          c.behind-level.result.done c.behind-level.result.left c.behind-level.ensures.going
          (λ last. let is = c.behind-level.ensures.done last in (is.0, is.1 ∙ c.open_len-in-loop-visits.ensures));
      low =
          none_sooner c.from.result c.loop-visits.level.left c.loop-visits.level.done c.behind-level.result.done c.behind-level.result.left
          c.open_len-in-loop-visits.result c.loop-visits.visits c.behind-level.ensures.going c.behind-level.ensures.done c.loop-visits.invariant.low;
    }

pub returns-in-Some-obstacle-clause-outcome : goal.returns-in-Some-obstacle-clause-outcome
returns-in-Some-obstacle-clause-outcome g c =
    let r = g.S.Steps.rules (g.S.Steps.setting c.args.steps.now) in
    let full = c.in_ok-visited.ensures.full in
    let going = c.in_ok-visited.ensures.going in
    let many = c.progress-progress.ensures.nodes in (
      why c.args.limits c.progress-progress.result c.in-Some-obstacle.obstacle
          (λ is. let low = full (c.in-Some-obstacle.is ∙ ap Some is) in omega (arith, low, many))
          (λ is. going (c.in-Some-obstacle.is ∙ ap Some is)),
      subst (HasLevels r (g.S.Steps.is_noted c.visit.new.steps)) (sym c.progress-progress.ensures.levels)
          (levels_stay r g.S.Steps.is_noted c.loop-visits.steps c.visit.new.steps c.in_ok-visited.ensures.notes c.loop-visits.level.done
          (levels_of r (g.S.Steps.is_noted c.loop-visits.steps) c.loop-visits.table.nodes.items c.loop-visits.table.agenda c.loop-visits.level.done
          c.loop-visits.level.left c.loop-visits.invariant.level)),
    )

pub returns-then-progress-eq0-clause-outcome : goal.returns-then-progress-eq0-clause-outcome
returns-then-progress-eq0-clause-outcome g c =
    let nodes = c.loop-visits.table.nodes.items in
    let r = g.S.Steps.rules (g.S.Steps.setting c.args.steps.now) in
    let is_noted = g.S.Steps.is_noted c.loop-visits.steps in (
      c.if-progress-eq0.true,
      subst (HasAll r is_noted) (sym c.progress-progress-2.ensures.nodes)
          (all_there r is_noted nodes c.loop-visits.table.agenda
          (nil_from_length c.loop-visits.table.agenda (sym c.progress-progress-2.ensures.open_nodes ∙ c.if-progress-eq0.true))
          c.loop-visits.invariant.first c.loop-visits.invariant.visited),
    )

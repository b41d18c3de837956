use Rattle.std.proofs.Common.{sym, subst, arith}
use Rattle.std.specs.Prelude.{IfSome, Any}
use Rattle.search.specs.Levels.{HasLevels}
use Rattle.search.specs.Visited.{AreVisited}
use Rattle.search.proofs.LevelLemmas.{no_level}
use Rattle.search.proofs.SearchLemmas.{first_there, none_visited}
use Rattle.search.proofs.searching.search.Goals as goal

pub explore-requires-clause-first : goal.explore-requires-clause-first
explore-requires-clause-first g c =
    let s = g.S.Steps.setting c.first.new.self in
    subst (λ u. Any (g.S.Steps.rules u).is_first c.admit.new.table.nodes.items) (sym c.in_ok-admit.ensures.setting)
    (first_there (g.S.Steps.rules s) c.kept.ensures c.new-table.result.nodes.items c.admit.new.table.nodes.items
    c.new-table.result.agenda c.admit.new.table.agenda c.in-Some.first (c.in_ok-admit.ensures.admits c.in_default-2.not-Full)
    (subst (λ u. (g.S.Steps.rules u).is_first c.in-Some.first) (sym c.in_ok-first.ensures.setting)
    (subst (λ o. IfSome o (g.S.Steps.rules (g.S.Steps.setting c.args.steps.now)).is_first) c.in-Some.is c.in_ok-first.ensures.first)))

pub explore-requires-clause-visited : goal.explore-requires-clause-visited
explore-requires-clause-visited g c =
    let s = g.S.Steps.setting c.first.new.self in
    let is_noted = g.S.Steps.is_noted c.admit.new.steps in
    subst (λ u. AreVisited (g.S.Steps.rules u) is_noted c.admit.new.table.nodes.items c.admit.new.table.agenda)
    (sym c.in_ok-admit.ensures.setting)
    (none_visited (g.S.Steps.rules s) is_noted c.new-table.result.nodes.items c.admit.new.table.nodes.items c.new-table.result.agenda
    c.admit.new.table.agenda c.in-Some.first (c.in_ok-admit.ensures.admits c.in_default-2.not-Full) c.new-table.ensures.nodes)

pub returns-in_default-clause-outcome : goal.returns-in_default-clause-outcome
returns-in_default-clause-outcome g c = (
  tt,
  subst (HasLevels (g.S.Steps.rules (g.S.Steps.setting c.args.steps.now)) (g.S.Steps.is_noted c.first.new.self)) (sym c.progress.ensures.levels)
      (no_level (g.S.Steps.rules (g.S.Steps.setting c.args.steps.now)) (g.S.Steps.is_noted c.first.new.self)),
)

pub returns-in-Full-clause-outcome : goal.returns-in-Full-clause-outcome
returns-in-Full-clause-outcome g c =
    let full = c.in_ok-admit.ensures.full c.in-Full.is in
    let many = c.progress-in-Full.ensures.nodes in
    let r = g.S.Steps.rules (g.S.Steps.setting c.args.steps.now) in (
      omega (arith, full, many),
      subst (HasLevels r (g.S.Steps.is_noted c.admit.new.steps)) (sym c.progress-in-Full.ensures.levels)
          (no_level r (g.S.Steps.is_noted c.admit.new.steps)),
    )

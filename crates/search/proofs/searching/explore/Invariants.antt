use Rattle.std.proofs.Common.{◌≡◌, ◌≤◌}
use Rattle.std.specs.Prelude.{Any}
use Rattle.search.specs.Rules.{StaysNoted}
use Rattle.search.specs.Visited.{AreVisited}
use Rattle.search.proofs.LevelLemmas.{AreUnderWay}
use Rattle.search.proofs.searching.explore.Given as goal

abbrev pub invariant-loop-visits : goal.invariant-loop-visits
invariant-loop-visits g l = record {
  setting : g.S.Steps.setting l.steps ≡ g.S.Steps.setting l.fn.steps;
  notes : StaysNoted g.S.Steps.is_noted l.fn.steps l.steps;
  first : Any (g.S.Steps.rules (g.S.Steps.setting l.fn.steps)).is_first l.table.nodes.items;
  visited : AreVisited (g.S.Steps.rules (g.S.Steps.setting l.fn.steps)) (g.S.Steps.is_noted l.steps) l.table.nodes.items l.table.agenda;
  level : AreUnderWay (g.S.Steps.rules (g.S.Steps.setting l.fn.steps)) (g.S.Steps.is_noted l.steps) l.table.nodes.items l.table.agenda
      l.level.done l.level.left;
  low : l.level.done ≤ l.visits;
}

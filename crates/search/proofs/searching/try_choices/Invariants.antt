use Rattle.std.proofs.Common.{◌≡◌, ◌-◌}
use Rattle.search.specs.Rules.{StaysNoted}
use Rattle.search.proofs.VisitLemmas.{IsVisiting}
use Rattle.search.proofs.searching.try_choices.Given as goal

abbrev pub invariant-choices : goal.invariant-choices
invariant-choices g l = record {
  setting : g.S.Steps.setting l.steps ≡ g.S.Steps.setting l.fn.steps;
  notes : StaysNoted g.S.Steps.is_noted l.fn.steps l.steps;
  visiting : IsVisiting (g.S.Steps.rules (g.S.Steps.setting l.fn.steps)) (g.S.Steps.is_noted l.steps) l.fn.table.nodes.items
      l.fn.table.agenda l.table.nodes.items l.table.agenda l.number l.from;
}

abbrev pub decreases-choices : goal.decreases-choices
decreases-choices g l = 18446744073709551615 - l.from

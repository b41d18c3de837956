use Rattle.std.proofs.Common.{◌∙◌}
use Rattle.search.proofs.VisitLemmas.{gets_closed, stays_open}
use Rattle.search.proofs.searching.visit.Goals as goal

pub returns-then-not-visited-clause-closes : goal.returns-then-not-visited-clause-closes
returns-then-not-visited-clause-closes g c =
    stays_open (g.S.Steps.rules (g.S.Steps.setting c.args.steps.now)) (g.S.Steps.is_noted c.try_choices.new.steps) c.args.table.now.nodes.items
    c.try_choices.new.table.nodes.items c.args.table.now.agenda c.try_choices.new.table.agenda c.args.number c.in_ok-visited.visited.is_done
    c.if-not-visited.true c.in_ok-visited.visited.obstacle c.in_ok-visited.ensures.visits

pub returns-clause-closes : goal.returns-clause-closes
returns-clause-closes g c =
    gets_closed (g.S.Steps.rules (g.S.Steps.setting c.args.steps.now)) g.S.Steps.is_noted c.try_choices.new.steps c.settle.new.steps
    c.settle.ensures.notes c.args.table.now.nodes.items c.try_choices.new.table.nodes.items c.settle.new.self.nodes.items c.args.table.now.agenda
    c.try_choices.new.table.agenda c.settle.new.self.agenda c.args.number c.in_ok-visited.visited.is_done c.if-not-visited.false
    (c.settle.ensures.nodes ∙ c.close_first.ensures.nodes) (c.settle.ensures.agenda ∙ c.close_first.ensures.agenda) c.requires.first c.requires.inside
    c.in_ok-visited.visited.obstacle c.in_ok-visited.ensures.visits

use Rattle.std.proofs.Common.{sym, ◌∙◌}
use Rattle.view_figures.proofs.StepLemmas.{response_left, response_stays}
use Rattle.view_figures.proofs.response_figures.ResponseFigures.observe.Goals as goal

-- the oldest job ends or waits
pub returns-then-leaves : goal.returns-then-leaves
returns-then-leaves c = λ before e.
    response_left c.args.tick.now before c.self.inside.ready_since.items c.enter.new.since.items
    c.respond.new.self.ready_since c.self.inside.spread c.respond.new.self.spread (c.self.view_is ∙ e)
    (sym c.leaves.ensures ∙ c.if-leaves.true) c.enter.ensures c.respond.ensures.left c.respond.ensures.response

-- none does
pub returns-else-leaves : goal.returns-else-leaves
returns-else-leaves c = λ before e.
    response_stays c.args.tick.now before c.self.inside.ready_since.items c.enter.new.since.items c.self.inside.spread
    (c.self.view_is ∙ e) (sym c.leaves.ensures ∙ c.if-leaves.false) c.enter.ensures

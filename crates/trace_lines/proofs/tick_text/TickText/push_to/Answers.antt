use Rattle.trace_lines.proofs.NumberLemmas.{tick_pushed}
use Rattle.trace_lines.proofs.tick_text.TickText.push_to.Goals as goal

pub returns-clause-same : goal.returns-clause-same
returns-clause-same c =
    let inside = c.self.inside in
    rw (← c.self.view_is)
    (tick_pushed c.args.text.now c.push_front.new.self inside.text inside.tens inside.last c.self.invariant.0 c.self.invariant.2
    c.self.invariant.1 (cc))

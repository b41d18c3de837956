use Rattle.std.proofs.Common.{◌∙◌, sym}
use Rattle.search_witnesses.proofs.Watching.{one_more}
use Rattle.search_witnesses.proofs.running.see_tick.Goals as goal

pub returns : goal.returns
returns c done first n of is =
    one_more first c.args.run.now c.advance.new.self c.args.system.now n c.args.number
    c.args.watched.now c.observe.new.self c.observation.result.now of is
    (sym c.if-not-advance.false ∙ c.advance.ensures.over)
    (c.advance.ensures.next c.if-not-advance.false) c.observation.ensures c.observe.ensures

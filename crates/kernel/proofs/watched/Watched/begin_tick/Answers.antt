use Rattle.kernel.proofs.GoingLemmas.{starts_first}
use Rattle.kernel.proofs.watched.Watched.begin_tick.Goals as goal

pub returns-in-Some : goal.returns-in-Some
returns-in-Some g c = (
  starts_first g.B.Blockers.are_counted c.args.arrived.now c.args.tick c.args.self.now c.begin_steady.new.self
      c.args.opening.now c.clear.new.self c.in-Some.task c.requires.may (c.requires.none c.if-none_comes.true)
      c.in-Some.ensures c.clear.ensures,
  c.in-Some.ensures.next,
)

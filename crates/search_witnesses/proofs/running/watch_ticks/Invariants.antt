use Rattle.search_witnesses.specs.Running.{IsWatched}
use Rattle.search_witnesses.proofs.running.watch_ticks.Given as goal

abbrev pub invariant-loop-tick : goal.invariant-loop-tick
invariant-loop-tick l = IsWatched l.fn.run l.run l._tick l.number l.watched

use Rattle.search_needs.specs.Entries.{RoutinesRespect}
use Rattle.search_needs.proofs.closed.routines_respect.Given as goal

abbrev pub invariant-loop-number : goal.invariant-loop-number
invariant-loop-number l = RoutinesRespect l.system l.needs l.number

use Rattle.search_packed.proofs.FreeLemmas.{AreAll}
use Rattle.search_packed.proofs.free.first_routines.Given as goal

abbrev pub invariant-loop-routine : goal.invariant-loop-routine
invariant-loop-routine l = AreAll l.routine l.all

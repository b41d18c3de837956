use Rattle.search_needs.specs.Entries.{RoutineRespects}
use Rattle.search_needs.proofs.EntryLemmas.{below_more}
use Rattle.search_needs.proofs.closed.routines_respect.Goals as goal

pub loop-number-preserved : goal.loop-number-preserved
loop-number-preserved c =
    below_more (RoutineRespects c.args.system.now c.args.needs.now) c.loop-number.number c.loop-number.invariant
    (c.routine_respects.ensures c.if-not-routine_respects.false)

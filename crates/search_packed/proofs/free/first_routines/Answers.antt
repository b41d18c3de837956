use Rattle.std.proofs.Common.{◌<◌, arith}
use Rattle.search_packed.proofs.FreeLemmas.{one_more}
use Rattle.search_packed.proofs.free.first_routines.Goals as goal

pub loop-routine-preserved : goal.loop-routine-preserved
loop-routine-preserved c =
    let low : c.loop-routine.routine < 64 = omega (arith, c.loop-routine-test.true, c.requires) in
    one_more c.loop-routine.routine c.loop-routine.all c.loop-routine.invariant low

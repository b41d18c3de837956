use Rattle.search_keys.specs.Bytes.{number}
use Rattle.search_packed.proofs.ZeroLemmas.{next_zero, number_zero}
use Rattle.search_packed.proofs.zeros.are_zero.Goals as goal

pub loop-n-preserved : goal.loop-n-preserved
loop-n-preserved c =
    next_zero number c.args.numbers.now c.loop-n.n-index _ c.loop-n-test.true c.loop-n.invariant
    (number_zero _ c.if-n-gt0.false)

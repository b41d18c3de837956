use Rattle.search_keys.specs.Bytes.{number, optional}
use Rattle.search_packed.proofs.ZeroLemmas.{next_zero}
use Rattle.search_packed.proofs.zeros.are_none.Goals as goal

pub loop-n-preserved : goal.loop-n-preserved
loop-n-preserved c =
    next_zero (optional number) c.args.numbers.now c.loop-n.n-index _ c.loop-n-test.true
    c.loop-n.invariant (c.is_none.ensures c.if-not-is_none.false)

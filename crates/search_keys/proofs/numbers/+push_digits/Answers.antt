use Rattle.std.proofs.Common.{◌<◌, arith}
use Rattle.search_keys.proofs.DigitLemmas.{limit_zero}
use Rattle.search_keys.proofs.numbers.+push_digits.Goals as goal

pub overflow_cast-n : goal.overflow_cast-n
overflow_cast-n t c =
    let low : c.args.n < 256 = limit_zero c.args.more c.args.n c.if-more-eq0.true c.requires in
    omega (arith, low)

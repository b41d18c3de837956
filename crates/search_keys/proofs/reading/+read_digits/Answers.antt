use Rattle.std.proofs.Common.{ℕ, List, arith, sym, ap}
use Rattle.search_keys.proofs.DigitLemmas.{byte_low, higher_low, last_low, limit_high}
use Rattle.search_keys.proofs.ReadingLemmas.{none_here}
use Rattle.search_keys.proofs.reading.+read_digits.Goals as goal

pub returns-then-more-eq0-clause-low : goal.returns-then-more-eq0-clause-low
returns-then-more-eq0-clause-low t c =
    last_low c.args.more c.value_of.result c.if-more-eq0.true c.value_of.ensures.low

pub returns-then-byte-lt128-clause-low : goal.returns-then-byte-lt128-clause-low
returns-then-byte-lt128-clause-low t c =
    byte_low c.args.more c.value_of-then-byte-lt128.result
    (omega (arith, c.if-byte-lt128.true, c.value_of-then-byte-lt128.ensures.value))

pub overflow_mul-result : goal.overflow_mul-result
overflow_mul-result t c =
    let below = higher_low c.args.more 0 c.read_digits-higher.result.0 c.if-more-eq0.false
    (omega arith) c.read_digits-higher.ensures.low in
    let high = limit_high c.args.more c.requires in
    omega (arith, below, high)

pub overflow_add-result : goal.overflow_add-result
overflow_add-result t c =
    let below = higher_low c.args.more 255 c.read_digits-higher.result.0 c.if-more-eq0.false
    (omega arith) c.read_digits-higher.ensures.low in
    let high = limit_high c.args.more c.requires in
    omega (arith, below, high, c.digit_of.ensures.low)

pub returns-in-None-clause-number : goal.returns-in-None-clause-number
returns-in-None-clause-number t c =
    ap (λ (r : ℕ × List ℕ). r.0) (sym (none_here c.args.more c.args.bytes.now c.in-None.ensures.cases))

pub returns-in-None-clause-rest : goal.returns-in-None-clause-rest
returns-in-None-clause-rest t c =
    ap (λ (r : ℕ × List ℕ). r.1) (sym (none_here c.args.more c.args.bytes.now c.in-None.ensures.cases))

pub returns-in-None-clause-low : goal.returns-in-None-clause-low
returns-in-None-clause-low t c = byte_low c.args.more 0 (omega arith)

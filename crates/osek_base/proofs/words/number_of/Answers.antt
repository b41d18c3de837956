-- A number that grows too large on the way is too large in the end.
use Rattle.std.proofs.Common.{arith}
use Rattle.osek_base.proofs.NumberLemmas.{too_large_at}
use Rattle.osek_base.proofs.words.number_of.Goals as goal

pub returns-in_err-checked_mul-clause-none : goal.returns-in_err-checked_mul-clause-none
returns-in_err-checked_mul-clause-none c = rw c.from_residual.ensures
    (λ h. too_large_at c.args.radix c.args.digits.now c.loop-byte.number c.loop-byte.byte-index c.requires.low c.loop-byte-test.true (omega (arith, c.in_err-checked_mul.ensures)) c.loop-byte.invariant)

pub returns-in_err-number-clause-none : goal.returns-in_err-number-clause-none
returns-in_err-number-clause-none c = rw c.from_residual-in_err-number.ensures
    (λ h. too_large_at c.args.radix c.args.digits.now c.loop-byte.number c.loop-byte.byte-index c.requires.low c.loop-byte-test.true (omega (arith, c.in_err-number.ensures, c.in_ok-checked_mul.ensures, c.digit_of-digit.ensures)) c.loop-byte.invariant)

use Rattle.std.proofs.Common.{◌≡◌, ◌+◌, ◌-◌, ◌%◌, ◌<◌, ◌++◌, ◌∷◌, [], set, length, subst, arith}
use Rattle.std.specs.Prelude.{decimal}
use Rattle.trace_lines.proofs.NumberLemmas.{tens_long, tens_written}
use Rattle.trace_lines.proofs.tick_text.next_tens.Goals as goal

pub overflow_sub-end : goal.overflow_sub-end
overflow_sub-end c =
    let some : 0 < c.args.tens - 1 = omega (arith, c.if-tens-gt1.true) in
    let few : c.args.tens - 1 < 1000000 = omega (arith, c.requires.few) in
    rw c.len-end.ensures.value (tens_long c.args.text.now (c.args.tens - 1) some few c.requires.before)

pub returns-then-digit-ne0 : goal.returns-then-digit-ne0
returns-then-digit-ne0 c =
    let old = c.args.text.now in
    let t = c.args.tens - 1 in
    let some : 0 < t = omega (arith, c.if-tens-gt1.true) in
    let few : t < 1000000 = omega (arith, c.requires.few) in
    let back : t + 1 ≡ c.args.tens = omega (arith, c.if-tens-gt1.true) in
    let more : 0 < (t + 1) % 10 = rw back (omega (arith, c.if-digit-ne0.true)) in
    let written = tens_written old t some few more c.requires.before in
    rw (c.set-then-digit-ne0.ensures, c.set.ensures, c.len-end.ensures.value)
    (subst (λ n. set (set old (length old - 3) (48 + n % 10)) (length old - 2) 48 ≡ decimal n ++ 48 ∷ 32 ∷ []) back written)

-- A digit is one byte of ASCII.
use Rattle.std.proofs.Common.{◌<◌, length, ap, arith, rules}
use Rattle.std.proofs.lemmas.Str.{encode_ascii}
use Rattle.task_asm.proofs.text.+push_digits.Goals as goal

pub push-requires : goal.push-requires
push-requires t c =
    let low : c.in-Some.digit < 128 = search rules in
    let e = ap length (encode_ascii c.in-Some.digit low) in
    omega arith

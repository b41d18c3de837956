use Rattle.std.proofs.Common.{◌<◌, ◌/◌, ◌^◌, refl, arith}
use Rattle.std.proofs.lemmas.Nat.{shr_le}
use Rattle.alarms.proofs.RaisedLemmas.{first_raised, none_left, none_so_far}
use Rattle.alarms.proofs.due_alarms.next_raised.Goals as goal

pub returns-then-left-eq0 : goal.returns-then-left-eq0
returns-then-left-eq0 c = none_left c.args.word c.args.from c.args.count c.if-left-eq0.true

pub returns-then-number-count : goal.returns-then-number-count
returns-then-number-count c =
    let less = shr_le c.args.word c.args.from in
    let fits : c.args.word / 2 ^ c.args.from < 2 ^ 64 = omega (arith, less, c.ranges.word.fits) in
    first_raised c.args.word c.args.from (c.args.word / 2 ^ c.args.from) refl c.if-left-eq0.false fits c.args.count c.if-number-count.true

pub returns-else-number-count : goal.returns-else-number-count
returns-else-number-count c =
    let less = shr_le c.args.word c.args.from in
    let fits : c.args.word / 2 ^ c.args.from < 2 ^ 64 = omega (arith, less, c.ranges.word.fits) in
    none_so_far c.args.word c.args.from (c.args.word / 2 ^ c.args.from) refl c.if-left-eq0.false fits c.args.count (omega (arith, c.if-number-count.false))

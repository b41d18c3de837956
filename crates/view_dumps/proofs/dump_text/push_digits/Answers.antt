use Rattle.std.proofs.Common.{arith}
use Rattle.view_dumps.proofs.BinaryLemmas.{front_room, more_pushed}
use Rattle.view_dumps.proofs.dump_text.push_digits.Goals as goal

pub push_array-requires : goal.push_array-requires
push_array-requires c =
    let l = front_room c.args.text.now c.push_more_digits.new.text c.args.number c.if-number-lt8.false c.ranges.number.fits c.push_more_digits.ensures.same in
    (omega arith, omega (arith, l, c.requires))

pub returns-clause-same : goal.returns-clause-same
returns-clause-same c =
    more_pushed c.args.text.now c.push_more_digits.new.text c.push_array.new.self c.args.number c.if-number-lt8.false c.ranges.number.fits
    c.push_more_digits.ensures.same c.push_array.ensures.same

pub returns-clause-short : goal.returns-clause-short
returns-clause-short c =
    let l = front_room c.args.text.now c.push_more_digits.new.text c.args.number c.if-number-lt8.false c.ranges.number.fits c.push_more_digits.ensures.same in
    omega (arith, l, c.push_array.ensures.len)

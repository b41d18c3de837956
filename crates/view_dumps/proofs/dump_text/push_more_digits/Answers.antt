use Rattle.std.proofs.Common.{arith}
use Rattle.view_dumps.proofs.BinaryLemmas.{more_pushed}
use Rattle.view_dumps.proofs.dump_text.push_more_digits.Goals as goal

pub returns-clause-same : goal.returns-clause-same
returns-clause-same c =
    more_pushed c.args.text.now c.push_few_digits-2.new.text c.push_array.new.self c.args.number c.if-number-lt8.false (omega (arith, c.requires.few))
    c.push_few_digits-2.ensures.same c.push_array.ensures.same

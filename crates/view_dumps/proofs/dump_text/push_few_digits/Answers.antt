use Rattle.std.proofs.Common.{◌++◌, sym, ap, ◌∙◌}
use Rattle.view_dumps.proofs.BinaryLemmas.{binary_one, binary_three, binary_two}
use Rattle.view_dumps.proofs.dump_text.push_few_digits.Goals as goal

pub returns-then-number-lt2-clause-same : goal.returns-then-number-lt2-clause-same
returns-then-number-lt2-clause-same c =
    c.push.ensures.same ∙ ap (λ l. c.args.text.now ++ l) (sym (binary_one c.args.number c.if-number-lt2.true))

pub returns-then-number-lt4-clause-same : goal.returns-then-number-lt4-clause-same
returns-then-number-lt4-clause-same c =
    c.push_array.ensures.same
    ∙ ap (λ l. c.args.text.now ++ l) (sym (binary_two c.args.number c.if-number-lt2.false c.if-number-lt4.true))

pub returns-else-number-lt4-clause-same : goal.returns-else-number-lt4-clause-same
returns-else-number-lt4-clause-same c =
    c.push_array-else-number-lt4.ensures.same
    ∙ ap (λ l. c.args.text.now ++ l) (sym (binary_three c.args.number c.if-number-lt4.false c.requires.few))

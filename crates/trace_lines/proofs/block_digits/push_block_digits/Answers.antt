use Rattle.std.proofs.Common.{◌++◌, [], ◌∷◌, sym, ◌∙◌, ap}
use Rattle.trace_lines.proofs.NumberLemmas.{four_digits, three_digits, two_digits}
use Rattle.trace_lines.proofs.block_digits.push_block_digits.Goals as goal

pub returns-then-number-lt100-clause-same : goal.returns-then-number-lt100-clause-same
returns-then-number-lt100-clause-same c =
    c.push_array.ensures.same
    ∙ ap (λ digits. c.args.text.now ++ digits)
    ((λ i. c.digit.ensures i ∷ c.digit-last.ensures i ∷ []) ∙ sym (two_digits c.args.number c.requires.more c.if-number-lt100.true))

pub returns-then-number-lt1000-clause-same : goal.returns-then-number-lt1000-clause-same
returns-then-number-lt1000-clause-same c =
    c.push_array-then-number-lt1000.ensures.same
    ∙ ap (λ digits. c.args.text.now ++ digits)
    ((λ i. c.digit-then-number-lt1000.ensures i ∷ c.digit-then-number-lt1000-2.ensures i ∷ c.digit-last.ensures i ∷ [])
    ∙ sym (three_digits c.args.number c.if-number-lt100.false c.if-number-lt1000.true))

pub returns-then-number-lt10000-clause-same : goal.returns-then-number-lt10000-clause-same
returns-then-number-lt10000-clause-same c =
    c.push_array-then-number-lt10000.ensures.same
    ∙ ap (λ digits. c.args.text.now ++ digits)
    ((λ i.
    c.digit-then-number-lt10000.ensures i ∷ c.digit-then-number-lt10000-2.ensures i ∷ c.digit-then-number-lt10000-3.ensures i
    ∷ c.digit-last.ensures i ∷ [])
    ∙ sym (four_digits c.args.number c.if-number-lt1000.false c.if-number-lt10000.true))

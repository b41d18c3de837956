use Rattle.std.proofs.Common.{◌++◌, [], ◌∷◌, sym, ◌∙◌, ap}
use Rattle.std.proofs.lemmas.Fmt.{decimal_digit}
use Rattle.trace_lines.proofs.block_digits.push_block_number.Goals as goal

pub returns-then-number-lt10-clause-same : goal.returns-then-number-lt10-clause-same
returns-then-number-lt10-clause-same c =
    c.push_array.ensures.same
    ∙ ap (λ digits. c.args.text.now ++ digits) ((λ i. c.digit.ensures i ∷ []) ∙ sym (decimal_digit c.args.number c.if-number-lt10.true))

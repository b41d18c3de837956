use Rattle.std.proofs.Common.{ap, append_assoc, sym, ◌∙◌, ◌++◌}
use Rattle.std.specs.Prelude.{decimal, codes}
use Rattle.std.proofs.lemmas.Fmt.{decimal_digit}
use Rattle.trace_lines.proofs.block_outcome.push_status.Goals as goal

pub returns-then-number-lt10-clause-same : goal.returns-then-number-lt10-clause-same
returns-then-number-lt10-clause-same c =
    c.push_array.ensures.same ∙ sym (append_assoc c.args.text.now (codes " = ") _)
    ∙ ap (λ digits. c.args.text.now ++ codes " = " ++ digits) (sym (decimal_digit c.number-number.result c.if-number-lt10.true))
    ∙ ap (λ n. c.args.text.now ++ codes " = " ++ decimal n) c.number-number.ensures

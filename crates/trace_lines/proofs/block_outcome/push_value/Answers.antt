use Rattle.std.proofs.Common.{ap, append_assoc, sym, ◌∙◌, ◌++◌}
use Rattle.std.specs.Prelude.{codes}
use Rattle.std.proofs.lemmas.Fmt.{decimal_digit}
use Rattle.trace_lines.proofs.block_outcome.push_value.Goals as goal

pub returns-then-value-lt10-clause-same : goal.returns-then-value-lt10-clause-same
returns-then-value-lt10-clause-same c =
    c.push_array.ensures.same ∙ sym (append_assoc c.args.text.now (codes " -> ") _)
    ∙ ap (λ digits. c.args.text.now ++ codes " -> " ++ digits) (sym (decimal_digit c.args.value c.if-value-lt10.true))

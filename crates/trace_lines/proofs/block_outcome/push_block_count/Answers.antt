use Rattle.std.proofs.Common.{ap, sym, ◌∙◌, ◌++◌}
use Rattle.std.specs.Prelude.{codes}
use Rattle.std.proofs.lemmas.Fmt.{decimal_digit}
use Rattle.trace_lines.specs.Lines.{ended}
use Rattle.trace_lines.proofs.block_outcome.push_block_count.Goals as goal

pub returns-then-number-lt10 : goal.returns-then-number-lt10
returns-then-number-lt10 c =
    c.push_front.ensures.same
    ∙ ap (λ digits. c.args.text.now ++ ended (codes " ! " ++ digits)) (sym (decimal_digit c.args.number c.if-number-lt10.true))

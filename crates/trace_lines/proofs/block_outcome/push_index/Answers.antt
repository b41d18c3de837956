use Rattle.std.proofs.Common.{ap, append_assoc, sym, ◌∙◌, ◌+◌, ◌++◌, ◌∷◌, []}
use Rattle.std.specs.Prelude.{codes}
use Rattle.std.proofs.lemmas.Fmt.{decimal_digit}
use Rattle.trace_lines.proofs.block_outcome.push_index.Goals as goal

pub returns-then-index-lt10-clause-same : goal.returns-then-index-lt10-clause-same
returns-then-index-lt10-clause-same c =
    let arrow = codes " -> [" in
    let digit = (48 + c.args.index) ∷ [] in
    c.push_array.ensures.same
    ∙ sym (append_assoc c.args.text.now arrow (digit ++ codes "] "))
    ∙ sym (append_assoc (c.args.text.now ++ arrow) digit (codes "] "))
    ∙ ap (λ digits. c.args.text.now ++ arrow ++ digits ++ codes "] ") (sym (decimal_digit c.args.index c.if-index-lt10.true))

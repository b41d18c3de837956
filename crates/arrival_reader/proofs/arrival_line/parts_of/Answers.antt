use Rattle.std.proofs.Common.{◌+◌, ◌∙◌}
use Rattle.std.proofs.lemmas.Bool.{false≢true}
use Rattle.std.proofs.lemmas.List.{take_rest}
use Rattle.arrival_reader.proofs.TextLemmas.{parts_at}
use Rattle.arrival_reader.proofs.arrival_line.parts_of.Goals as goal
use Rattle.arrival_reader.proofs.arrival_line.parts_of.Goals.{else-is_decimal-via-then-is_decimal+else-is_name, else-is_decimal-via-else-is_decimal}

pub returns-else-is_decimal-clause-none : goal.returns-else-is_decimal-clause-none
returns-else-is_decimal-clause-none c = λ tick name h.
    let line = c.args.line.now in
    let i = c.in_ok-space.space in
    let found = c.in_ok-space.ensures in
    let parts = parts_at line i found.within found.there found.first tick name h in
    elim c.else-is_decimal.branch [
      | else-is_decimal-via-then-is_decimal+else-is_name w ↦
          false≢true (w.if-is_name.ensures ∙ rw (take_rest line (i + 1)) parts.named)
      | else-is_decimal-via-else-is_decimal w ↦ false≢true (w.if-is_decimal.ensures ∙ parts.decimal)
    ]

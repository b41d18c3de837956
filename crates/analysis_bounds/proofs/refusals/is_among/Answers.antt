use Rattle.std.proofs.Common.{rules, ◌≡◌, sym, ◌∙◌}
use Rattle.analysis_bounds.proofs.NumberLemmas.{element}
use Rattle.analysis_bounds.proofs.refusals.is_among.Goals as goal

pub returns-then-eq : goal.returns-then-eq
returns-then-eq c h =
    let low = c.if-number-failures.false in
    let same : c.index-failures-number.result ≡ c.args.failure.now = search rules in
    (c.args.number, low, sym (element c.args.failures.now c.args.number c.index-failures-number.result c.args.failure.now low) ∙ sym c.index-failures-number.is ∙ same)

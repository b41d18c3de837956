use Rattle.std.proofs.Common.{sym, ◌∙◌}
use Rattle.search_witnesses.proofs.Paid.{all_paid}
use Rattle.search_witnesses.proofs.paying.are_paid.Goals as goal

pub returns : goal.returns
returns c pay =
    all_paid c.args.rules.now c.args.arrivals.now c.args.from c.args.until c.requires
    (sym c.pay_by_each.ensures ∙ pay)

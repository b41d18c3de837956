use Rattle.std.proofs.Common.{◌≡◌, refl, sym, ◌∙◌, ap, arith}
use Rattle.std.specs.Prelude.{None}
use Rattle.std.proofs.lemmas.Bool.{true≢false}
use Rattle.osek_base.specs.Separable.{first_denial}
use Rattle.partition_check.specs.Partition.{told}
use Rattle.partition_check.proofs.Breaches.{separable_where_none, none_where_separable}
use Rattle.partition_check.proofs.Isolated.{isolated}
use Rattle.partition_check.proofs.PartAgrees.{its_upper_part}
use Rattle.partition_check.proofs.check.check_partition.Goals as goal

pub returns-in-None-clause-accepts : goal.returns-in-None-clause-accepts
returns-in-None-clause-accepts c =
    let S = c.args.system.now in
    let none : first_denial S c.args.p ≡ None = sym c.first_denial.ensures.first ∙ ap told c.in-None.is in
    ((λ _. separable_where_none S c.args.p none), (λ _. refl))

pub returns-in-Some-clause-accepts : goal.returns-in-Some-clause-accepts
returns-in-Some-clause-accepts c =
    let S = c.args.system.now in
    let some = sym c.first_denial.ensures.first ∙ ap told c.in-Some.is in
    ((λ ok. absurd (true≢false (sym ok))), (λ s. absurd (let both = sym some ∙ none_where_separable S c.args.p s in grind (arith, both))))

pub returns-in-None-clause-isolated : goal.returns-in-None-clause-isolated
returns-in-None-clause-isolated c =
    let S = c.args.system.now in
    isolated S c.args.p c.shows_proper.ensures (separable_where_none S c.args.p (sym c.first_denial.ensures.first ∙ ap told c.in-None.is))

pub returns-in-None-clause-by_itself : goal.returns-in-None-clause-by_itself
returns-in-None-clause-by_itself c =
    let S = c.args.system.now in
    its_upper_part S c.args.p c.shows_proper.ensures (separable_where_none S c.args.p (sym c.first_denial.ensures.first ∙ ap told c.in-None.is))

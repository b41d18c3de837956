use Rattle.search_states.proofs.SetLemmas.{out_before, out_other}
use Rattle.search_states.proofs.sets.with_number.Goals as goal

pub returns-then-number-lt64-clause-stays : goal.returns-then-number-lt64-clause-stays
returns-then-number-lt64-clause-stays c =
    out_before c.args.set c.args.number c.if-number-lt64.true

pub returns-then-number-lt64-clause-others : goal.returns-then-number-lt64-clause-others
returns-then-number-lt64-clause-others c =
    out_other c.args.set c.args.number c.if-number-lt64.true

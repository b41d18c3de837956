use Rattle.osek_base.proofs.TokenLemmas.{no_number}
use Rattle.osek_base.proofs.words.number_at.Goals as goal

pub returns-in_err-value-clause-none : goal.returns-in_err-value-clause-none
returns-in_err-value-clause-none c = rw c.from_residual.ensures (no_number c.args.bytes.now c.run_len-len.result c.run_len-len.ensures c.in_err-value.ensures.none)

use Rattle.std.proofs.Common.{arith}
use Rattle.search_needs.proofs.EntryLemmas.{zeros_stand}
use Rattle.search_needs.proofs.closed.zeros_may_stand.Goals as goal

pub returns : goal.returns
returns c h = zeros_stand c.args.rows.now (λ r low. c.loop-number.invariant r (omega (arith, low, c.loop-number-test.false)))

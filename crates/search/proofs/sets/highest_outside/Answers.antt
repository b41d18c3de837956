use Rattle.std.proofs.Common.{ℕ, arith}
use Rattle.std.specs.Prelude.{IfNone, Option, Some, None}
use Rattle.std.proofs.lemmas.Option.{IfSome_then}
use Rattle.search.proofs.SubsetLemmas.{has_outside, none_outside}
use Rattle.search.proofs.sets.highest_outside.Goals as goal

if_none : (o : Option ℕ) (P Q : Type 0) → (P → Q) → IfNone o P → IfNone o Q
if_none None P Q then is = then is
if_none (Some k) P Q then is = is

pub returns-clause-inside : goal.returns-clause-inside
returns-clause-inside c =
    IfSome_then c.checked_ilog2.result
    (has_outside c.args.set c.args.whole (omega (arith, c.ranges.whole.fits)) c.checked_ilog2.result c.checked_ilog2.ensures.bound
    c.checked_ilog2.ensures.power_le c.checked_ilog2.ensures.next_power_gt)
    (λ thing both. both.0)

pub returns-clause-outside : goal.returns-clause-outside
returns-clause-outside c =
    IfSome_then c.checked_ilog2.result
    (has_outside c.args.set c.args.whole (omega (arith, c.ranges.whole.fits)) c.checked_ilog2.result c.checked_ilog2.ensures.bound
    c.checked_ilog2.ensures.power_le c.checked_ilog2.ensures.next_power_gt)
    (λ thing both. both.1)

pub returns-clause-none : goal.returns-clause-none
returns-clause-none c =
    if_none c.checked_ilog2.result _ _
    (none_outside c.args.set c.args.whole (omega (arith, c.ranges.set.fits)) (omega (arith, c.ranges.whole.fits)))
    c.checked_ilog2.ensures.none

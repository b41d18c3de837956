use Rattle.std.proofs.Common.{ℕ, ◌+◌, ◌*◌, ◌/◌, ◌^◌, ◌≤◌, sym, subst, arith}
use Rattle.std.specs.Prelude.{IfNone}
use Rattle.std.proofs.Math.Pow.{pow_pos}
use Rattle.search.specs.Subsets.{IsSubset, NoSubset}
use Rattle.search.proofs.SubsetLemmas.{subset_within, none_behind, none_more, none_left, past}
use Rattle.search.proofs.sets.subset_from.Goals as goal

pub returns-then-from-whole-clause-none : goal.returns-then-from-whole-clause-none
returns-then-from-whole-clause-none c set low is =
    let within = subset_within set c.args.whole is in
    let above = c.if-from-whole.true in
    absurd (omega (arith, within, low, above))

pub returns-in_err-set-clause-none : goal.returns-in_err-set-clause-none
returns-in_err-set-clause-none c =
    let set = c.sets.set in
    let end = (set / 2 ^ c.in-Some.thing + 1) * 2 ^ c.in-Some.thing in
    subst (λ o. IfNone o ((other : ℕ) → c.args.from ≤ other → ¬ IsSubset other c.args.whole)) (sym c.from_residual.ensures)
    (none_left c.args.whole c.args.from end (let over = c.in_err-set.ensures.none in omega (arith, over, c.ranges.whole.fits))
    (none_more c.args.whole c.args.from set end c.sets.invariant.none
    (none_behind set c.args.whole c.in-Some.thing c.in-Some.ensures.inside c.in-Some.ensures.outside)))

pub sets-preserved : goal.sets-preserved
sets-preserved c =
    let set = c.sets.set in
    let behind = past set (2 ^ c.in-Some.thing) (pow_pos c.in-Some.thing) in
    record {
      from = omega (arith, behind, c.in_ok-set.ensures.some, c.sets.invariant.from);
      none =
          subst (NoSubset c.args.whole c.args.from) (sym c.in_ok-set.ensures.some)
          (none_more c.args.whole c.args.from set ((set / 2 ^ c.in-Some.thing + 1) * 2 ^ c.in-Some.thing) c.sets.invariant.none
          (none_behind set c.args.whole c.in-Some.thing c.in-Some.ensures.inside c.in-Some.ensures.outside));
    }

pub returns-clause-within : goal.returns-clause-within
returns-clause-within c = subset_within c.sets.set c.args.whole c.in_default.ensures.none

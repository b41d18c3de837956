use Rattle.std.proofs.Common.{◌<◌, ◌≤◌, ◌+◌, arith, refl, sym, ◌∙◌, subst}
use Rattle.std.specs.Prelude.{nat_lt}
use Rattle.std.proofs.lemmas.List.{get_or_default}
use Rattle.arrival_rules.specs.Rules.{no_rule}
use Rattle.search_packed.specs.Unpacked.{unpacked}
use Rattle.search_packed.proofs.FreeLemmas.{IsLeft, debt_step, debts_left, free_by_none, keep_away, let_come}
use Rattle.search_packed.proofs.free.free_routines.Goals.{then-debt-from, else-debt-from}
use Rattle.search_packed.proofs.free.free_routines.Goals as goal

pub loop-number-init : goal.loop-number-init
loop-number-init c = (
  free_by_none c.args.rules.now (unpacked c.args.bytes.now).debts c.args.count
      c.first_routines-free.result c.first_routines-free.ensures.all c.first_routines-free.ensures.low,
  debts_left c.args.bytes.now c.read_count-told.result.0 c.read_count-told.result.1.now
      c.read_count-told.ensures.count c.read_count-told.ensures.rest,
)

pub loop-number-preserved : goal.loop-number-preserved
loop-number-preserved c =
    let rules = c.args.rules.now in
    let debts = (unpacked c.args.bytes.now).debts in
    let n = c.loop-number.number in
    let told = c.read_count-told.result.0 in
    let are = c.loop-number.invariant.0 in
    let rule = c.index-rules-number.result in
    let is = get_or_default rules n rule no_rule c.loop-number-test.true in
    let here = c.index-rules-number.is ∙ is in
    let step = debt_step debts told n c.loop-number.rest.now (nat_lt n told) refl
    c.loop-number.invariant.1 in
    let debt = step.debt ∙ sym c.next_debt-debt.ensures.debt in
    let left = subst (IsLeft debts told (n + 1)) (sym c.next_debt-debt.ensures.rest) step.left in
    elim c.if-debt-from.branch [
      | then-debt-from w ↦
          let same = w.from-then-debt-from.ensures ∙ w.number.ensures.is in
          rw (w.rest-is, w.free-is) (
            keep_away rules debts c.args.count n c.loop-number.free are rule here
                w.without-free.result w.without-free.ensures.less
                (λ i there is. w.without-free.ensures.away i there (is ∙ sym same))
                (λ i apart. w.without-free.ensures.others i (λ is. apart (is ∙ same)))
                w.without-free.ensures.low
                (let reached = w.if-debt-from.true in
                let from = c.from.ensures in omega (arith, reached, debt, from)),
            left,
          )
      | else-debt-from w ↦
          rw (w.rest-is, w.free-is) (
            let_come rules debts c.args.count n c.loop-number.free are rule here
                (let below = w.if-debt-from.false in
                let from = c.from.ensures in omega (arith, below, debt, from)),
            left,
          )
    ]

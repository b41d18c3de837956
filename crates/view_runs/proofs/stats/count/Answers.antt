use Rattle.std.proofs.Common.{sym, subst, arith}
use Rattle.view_figures.specs.FigureSums.{AreFigures}
use Rattle.view_runs.proofs.CountLemmas.{early, late}
use Rattle.view_runs.proofs.stats.count.Goals as goal

pub returns-then-from-seen : goal.returns-then-from-seen
returns-then-from-seen c = λ S before count are.
    subst (λ x. AreFigures S x c.observe.new.self) (sym (late c.args.from c.args.seen.now before (omega (arith, count, c.if-from-seen.true))))
    (c.observe.ensures S _ are)

pub returns-else-from-seen : goal.returns-else-from-seen
returns-else-from-seen c = λ S before count are.
    subst (λ x. AreFigures S x c.args.figures.now) (sym (early c.args.from c.args.seen.now before (omega (arith, count, c.if-from-seen.false)))) are

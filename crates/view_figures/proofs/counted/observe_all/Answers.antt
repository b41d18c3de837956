use Rattle.std.proofs.Common.{◌≡◌, ◌+◌, ◌-◌, subst, arith}
use Rattle.view_figures.specs.Counting.{Counts}
use Rattle.view_figures.proofs.RowLemmas.{counts_more}
use Rattle.view_figures.proofs.counted.observe_all.Goals as goal

-- some at once, and then the rest
pub returns-then-passed-count : goal.returns-then-passed-count
returns-then-passed-count g c =
    let sum = g.F.Counted.figures c.args.scene.now.levels.now c.args.number in
    let o = c.args.scene.now.observation.now in
    let some = c.observe_some-passed in
    let rest = c.args.count - some.result in
    let all : some.result + rest ≡ c.args.count = omega (arith, some.ensures.few) in
    subst (λ n. Counts sum o c.args.first n c.args.figures.now c.observe_rest.new.figures) all
    (counts_more sum o c.args.first some.result rest c.args.figures.now some.new.self
    c.observe_rest.new.figures some.ensures.counted c.observe_rest.ensures)

use Rattle.std.proofs.Common.{◌∷◌, subst}
use Rattle.std.proofs.Math.Nat.{add-zero}
use Rattle.seen_ticks.specs.Seen.{numbered}
use Rattle.view_figures.specs.FigureSums.{AreFigures}
use Rattle.view_figures.proofs.figures.Figures.observe.Goals as goal

-- one tick, of its own number
pub returns : goal.returns
returns c = λ S before are.
    let o = c.args.observation.now in
    subst (λ t. AreFigures S (numbered t o ∷ before) c.observe_row.new.self)
    (add-zero o.tick) (c.observe_row.ensures S before are)

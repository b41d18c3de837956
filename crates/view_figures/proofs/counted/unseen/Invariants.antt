use Rattle.std.proofs.Common.{◌≡◌, replicate}
use Rattle.view_figures.proofs.counted.unseen.Given as goal

-- figures of each one so far
abbrev pub invariant-loop-made : goal.invariant-loop-made
invariant-loop-made g l = l.figures.items ≡ replicate l._made g.F.Counted.unseen

use Rattle.std.proofs.Common.{◌≡◌}
use Rattle.view_figures.specs.ResponseSums.{some_more}
use Rattle.view_figures.proofs.response_figures.enter_some.Given as goal

-- so many jobs are ready since the tick
abbrev pub invariant-loop-entered : goal.invariant-loop-entered
invariant-loop-entered l = l.since.items ≡ some_more l.tick l._entered l.initial.since.items

use Rattle.std.specs.List.{All}
use Rattle.search_witnesses.specs.Shown.{IsReached}
use Rattle.search_witnesses.proofs.reached.reached_figures.Given as goal

abbrev pub invariant-loop-place : goal.invariant-loop-place
invariant-loop-place l =
    All (IsReached l.system l.mode l.rules l.found) l.reached.items

use Rattle.std.proofs.Common.{ℕ, ◌≡◌, ◌+◌}
use Rattle.kernel.specs.Progress.{Progress}
use Rattle.search_witnesses.specs.Running.{IsWatched}
use Rattle.search_witnesses.proofs.running.go_on_until.Given as goal

abbrev pub invariant-loop-more : goal.invariant-loop-more
invariant-loop-more l =
    (first : Progress) (n : ℕ) → first.system ≡ l.system
    → IsWatched first l.fn.run n l.figure.number l.fn.watched
    → IsWatched first l.run (n + l.more) l.figure.number l.watched

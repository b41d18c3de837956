use Rattle.std.proofs.Common.{ℕ, ◌<◌, ◌≤◌, get_or}
use Rattle.search_labels.proofs.blocked.are_at_least.Given as goal

abbrev pub invariant-loop-task : goal.invariant-loop-task
invariant-loop-task l = (k : ℕ) → k < l.task → get_or l.others k 0 ≤ get_or l.blocked k 0

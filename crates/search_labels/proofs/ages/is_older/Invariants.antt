use Rattle.std.proofs.Common.{ℕ, ◌<◌, ◌≤◌, get_or}
use Rattle.search_labels.proofs.ages.is_older.Given as goal

abbrev pub invariant-loop-job : goal.invariant-loop-job
invariant-loop-job l = (i : ℕ) → i < l.job → get_or l.others i 0 ≤ get_or l.ages i 0

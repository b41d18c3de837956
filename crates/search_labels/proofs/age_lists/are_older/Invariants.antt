use Rattle.std.proofs.Common.{ℕ, [], ◌<◌, get_or}
use Rattle.law_figures.specs.Ages.{AreOlder}
use Rattle.search_labels.proofs.age_lists.are_older.Given as goal

abbrev pub invariant-loop-task : goal.invariant-loop-task
invariant-loop-task l = (k : ℕ) → k < l.task → AreOlder (get_or l.lists k []) (get_or l.others k [])

use Rattle.std.proofs.Common.{◌≡◌, take}
use Rattle.law_figures.specs.Merging.{merged_ages}
use Rattle.search_labels.proofs.ages.join_one.Given as goal

abbrev pub invariant-loop-job : goal.invariant-loop-job
invariant-loop-job l = l.ages.items ≡ merged_ages l.initial.ages.items (take l.job l.others)

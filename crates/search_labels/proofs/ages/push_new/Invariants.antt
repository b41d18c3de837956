use Rattle.std.proofs.Common.{◌≡◌, ◌++◌, map, min, replicate}
use Rattle.search_labels.proofs.ages.push_new.Given as goal

abbrev pub invariant-loop-new : goal.invariant-loop-new
invariant-loop-new l =
    l.ages.items ≡ l.fn.ages.items ++ map (min l.cap) (replicate l._new 1)

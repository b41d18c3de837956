use Rattle.std.proofs.Common.{◌≡◌, ◌++◌, suc, map, min, take}
use Rattle.search_labels.proofs.ages.push_older.Given as goal

abbrev pub invariant-loop-age : goal.invariant-loop-age
invariant-loop-age l =
    l.ages.items ≡ l.fn.ages.items ++ map (λ n. min l.cap (suc n)) (take l.age-index l.old)

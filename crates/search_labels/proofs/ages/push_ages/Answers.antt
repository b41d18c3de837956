use Rattle.std.proofs.Common.{List, ℕ, ◌++◌, map, min, replicate, ◌∙◌, ap}
use Rattle.search_labels.proofs.AgeLemmas.{both_added}
use Rattle.search_labels.proofs.ages.push_ages.Goals as goal

pub returns : goal.returns
returns c =
    c.in_ok-push_new.ensures
    ∙ ap (λ (v : List ℕ). v ++ map (min c.args.cap) (replicate c.args.new 1))
    c.in_ok-push_older.ensures
    ∙ both_added c.args.cap c.args.new c.args.ages.now.items c.args.old.now

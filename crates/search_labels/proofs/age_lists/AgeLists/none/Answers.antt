use Rattle.search_labels.proofs.ListLemmas.{none_made}
use Rattle.search_labels.proofs.age_lists.AgeLists.none.Goals as goal

pub invariant_of-result : goal.invariant_of-result
invariant_of-result c =
    (none_made c.new.result.items _ c.args.tasks c.new.ensures.items c.in_ok-ends.ensures).0

pub returns : goal.returns
returns c =
    (none_made c.new.result.items _ c.args.tasks c.new.ensures.items c.in_ok-ends.ensures).1

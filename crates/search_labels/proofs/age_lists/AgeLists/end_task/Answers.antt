use Rattle.std.proofs.Common.{sym, ◌∙◌, subst}
use Rattle.search_labels.specs.AgeLists.{AreLists}
use Rattle.search_labels.proofs.ListLemmas.{list_ended}
use Rattle.search_labels.proofs.age_lists.AgeLists.end_task.Goals as goal

pub invariant_of-self-2 : goal.invariant_of-self-2
invariant_of-self-2 c =
    subst (AreLists c.self.inside.ages.items) (sym c.in_ok-push.ensures.items)
    (list_ended c.self.inside.ages.items c.self.inside.ends.items c.len.result c.self.invariant
    (c.len.ensures ∙ c.self.inside.ages.ok.0))

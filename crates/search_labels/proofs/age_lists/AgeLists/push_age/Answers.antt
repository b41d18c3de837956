use Rattle.std.proofs.Common.{ℕ, List, ◌∷◌, [], sym, subst}
use Rattle.search_labels.specs.AgeLists.{AreLists}
use Rattle.search_labels.proofs.ListLemmas.{lists_stay}
use Rattle.search_labels.proofs.age_lists.AgeLists.push_age.Goals as goal

pub invariant_of-self-2 : goal.invariant_of-self-2
invariant_of-self-2 c =
    subst (λ (v : List ℕ). AreLists v c.self.inside.ends.items) (sym c.in_ok-push.ensures.items)
    (lists_stay c.self.inside.ages.items (c.args.age ∷ []) c.self.inside.ends.items c.self.invariant)

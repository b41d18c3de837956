use Rattle.std.proofs.Common.{ℕ, List, length, sym, ◌∙◌, ap}
use Rattle.search_labels.proofs.ListLemmas.{length_lists}
use Rattle.search_labels.proofs.age_lists.AgeLists.len.Goals as goal

pub returns : goal.returns
returns c =
    c.count.ensures ∙ ap (λ (v : List ℕ). length v) c.deref.ensures.value
    ∙ sym (length_lists c.self.inside.ages.items 0 c.self.inside.ends.items)
    ∙ ap (λ (v : List (List ℕ)). length v) c.self.view_is

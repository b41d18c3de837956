use Rattle.std.proofs.Common.{ℕ, ◌≡◌, List, [], length, get_or, refl, sym, ◌∙◌, ap, ap₂}
use Rattle.law_figures.specs.Merging.{merged_ages}
use Rattle.search_labels.specs.AgeLists.{lists_of}
use Rattle.search_labels.proofs.ListLemmas.{each_merged, length_lists, merged_at, within_grown}
use Rattle.search_labels.proofs.MapLemmas.{map_length}
use Rattle.search_labels.proofs.age_lists.AgeLists.join.Goals as goal

pub invariant_of-self : goal.invariant_of-self
invariant_of-self c =
    within_grown _ _ 0 c.self.inside.ends.items c.self.invariant c.join_one.ensures.grows

pub invariant_of-self-then-have_same_ends : goal.invariant_of-self-then-have_same_ends
invariant_of-self-then-have_same_ends c =
    within_grown _ _ 0 c.self.inside.ends.items c.self.invariant c.join_one.ensures.grows

pub returns-then-have_same_ends-clause-count : goal.returns-then-have_same_ends-clause-count
returns-then-have_same_ends-clause-count c =
    length_lists _ 0 c.self.inside.ends.items
    ∙ sym (length_lists c.self.inside.ages.items 0 c.self.inside.ends.items)
    ∙ ap (λ (v : List (List ℕ)). length v) c.self.view_is

pub returns-then-have_same_ends-clause-each : goal.returns-then-have_same_ends-clause-each
returns-then-have_same_ends-clause-each c k =
    let ends = c.self.inside.ends.items in
    let ages = c.self.inside.ages.items in
    let same : ends ≡ c.others.inside.ends.items =
    sym c.deref.ensures.value ∙ c.if-have_same_ends.ensures refl ∙ c.deref-2.ensures.value in
    ap (λ (v : List ℕ). get_or (lists_of v ends) k [])
    (c.in_ok-join_one.ensures.each
    ∙ ap (merged_ages ages) c.deref-then-have_same_ends.ensures.value)
    ∙ merged_at ages c.others.inside.ages.items ends c.others.inside.ends.items k same
    ∙ ap₂ (λ (a b : List (List ℕ)). merged_ages (get_or a k []) (get_or b k []))
    c.self.view_is c.others.view_is

pub returns-clause-count : goal.returns-clause-count
returns-clause-count c =
    ap (λ (v : List (List ℕ)). length v) (c.replace.ensures ∙ c.in_ok-merged.ensures)
    ∙ map_length _ _

pub returns-clause-each : goal.returns-clause-each
returns-clause-each c k =
    ap (λ (v : List (List ℕ)). get_or v k []) (c.replace.ensures ∙ c.in_ok-merged.ensures)
    ∙ each_merged c.args.self.now c.args.others.now k c.requires

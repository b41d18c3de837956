use Rattle.std.proofs.Common.{ℕ, ◌≡◌, ◌+◌, List, ◌++◌, length, map, refl, sym, ◌∙◌, ap₂, subst}
use Rattle.osek_base.specs.Lists.{below}
use Rattle.law_figures.specs.Merging.{merged_ages}
use Rattle.search_labels.specs.Parts.{merged_lists}
use Rattle.search_labels.proofs.ListLemmas.{AreMade, one_list_more}
use Rattle.search_labels.proofs.MapLemmas.{one_more}
use Rattle.search_labels.proofs.age_lists.merged.Goals as goal

pub loop-task-preserved : goal.loop-task-preserved
loop-task-preserved c =
    let lists = c.args.lists.now in
    let f : ℕ → List ℕ = merged_lists c.args.others.now lists in
    let k = c.loop-task.task in
    let ages = c.loop-task.ages.items in
    let new = c.push_merged.new.ages.items in
    let count : c.len-in-loop-task.result ≡ length new =
    c.len-in-loop-task.ensures ∙ c.push_merged.new.ages.ok.0 in
    subst (λ (v : List ℕ). AreMade new v (map f (below (k + 1))))
    (sym c.in_ok-push.ensures.items)
    (one_list_more ages c.loop-task.ends.items (f k) new _ _ _ c.loop-task.invariant
    (c.in_ok-push_merged.ensures
    ∙ ap₂ (λ (a b : List ℕ). ages ++ merged_ages a b) c.of.ensures c.of-in-loop-task.ensures)
    count (one_more f k _ _ refl refl))

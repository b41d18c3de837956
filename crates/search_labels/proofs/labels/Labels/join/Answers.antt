use Rattle.std.proofs.Common.{None, max, min, refl, ◌∙◌, ap}
use Rattle.law_figures.specs.Merging.{merged_age}
use Rattle.search_labels.specs.Labels.{Labels, no_hold}
use Rattle.search_labels.specs.Joining.{joined_hold}
use Rattle.search_labels.proofs.LabelLemmas.{labels_joined, joinable_at, list_joined, lists_joined}
use Rattle.search_labels.proofs.labels.Labels.join.Goals as goal

-- list by list, the labels seen as their fields
pub returns : goal.returns
returns c =
    let l = c.args.self.now in
    let m = c.args.other.now in
    let mine = c.self.view_is in
    let others = c.other.view_is in
    labels_joined l m _ (c.if-not-is_of_as_many.ensures refl)
    (joinable_at c.deref.result.now c.deref-else-not-is_of_as_many.result.now l.holds m.holds
    (c.deref.ensures.value ∙ ap (λ (v : Labels). v.holds) mine)
    (c.deref-else-not-is_of_as_many.ensures.value ∙ ap (λ (v : Labels). v.holds) others)
    (c.if-not-are_joinable.ensures refl))
    (list_joined min 0 c.self.inside.debts
    c.deref_mut.result.now c.deref-2.result.now c.join_debts.new.debts l.debts m.debts
    (c.deref_mut.ensures.value ∙ ap (λ (v : Labels). v.debts) mine)
    (c.deref-2.ensures.value ∙ ap (λ (v : Labels). v.debts) others)
    c.deref_mut.ensures.len c.join_debts.ensures.count c.join_debts.ensures.each)
    (lists_joined c.self.inside.ages c.other.inside.ages c.join.new.self l.ages m.ages
    (ap (λ (v : Labels). v.ages) mine) (ap (λ (v : Labels). v.ages) others)
    c.in_ok-join.ensures.count c.in_ok-join.ensures.each)
    (list_joined merged_age None c.self.inside.pending
    c.deref_mut-2.result.now c.deref-3.result.now c.join_pending.new.pending l.pending m.pending
    (c.deref_mut-2.ensures.value ∙ ap (λ (v : Labels). v.pending) mine)
    (c.deref-3.ensures.value ∙ ap (λ (v : Labels). v.pending) others)
    c.deref_mut-2.ensures.len c.join_pending.ensures.count c.join_pending.ensures.each)
    (list_joined joined_hold no_hold c.self.inside.holds
    c.deref_mut-3.result.now c.deref-4.result.now c.join_holds.new.holds l.holds m.holds
    (c.deref_mut-3.ensures.value ∙ ap (λ (v : Labels). v.holds) mine)
    (c.deref-4.ensures.value ∙ ap (λ (v : Labels). v.holds) others)
    c.deref_mut-3.ensures.len c.join_holds.ensures.count c.join_holds.ensures.each)
    (list_joined max 0 c.self.inside.blocked
    c.deref_mut-4.result.now c.deref-5.result.now c.join_blocked.new.blocked l.blocked m.blocked
    (c.deref_mut-4.ensures.value ∙ ap (λ (v : Labels). v.blocked) mine)
    (c.deref-5.ensures.value ∙ ap (λ (v : Labels). v.blocked) others)
    c.deref_mut-4.ensures.len c.join_blocked.ensures.count c.join_blocked.ensures.each)

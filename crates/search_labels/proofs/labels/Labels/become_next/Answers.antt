use Rattle.std.proofs.Common.{ℕ, List, Option, ◌∙◌, ap}
use Rattle.view_figures.specs.FigureSums.{levels_of, lower_executes}
use Rattle.law_figures.specs.Holding.{Hold}
use Rattle.seen_ticks.specs.Seen.{seen_of}
use Rattle.search_labels.specs.Labels.{Labels, next_labels}
use Rattle.search_labels.specs.Parts.{ages_behind, blocked_behind, each_of, hold_behind, pending_behind, debt_behind}
use Rattle.search_labels.proofs.LabelLemmas.{labels_same}
use Rattle.search_labels.proofs.labels.Labels.become_next.Goals as goal

-- list by list, the old labels seen as their fields
pub returns : goal.returns
returns c =
    let cap = c.args.cap in
    let rules = c.args.rules.now in
    let set = c.args.set in
    let seen = seen_of c.args.seen.now in
    let lower = lower_executes (levels_of c.args.system.now) c.args.seen.now.executor in
    labels_same _ (next_labels lower cap rules set seen c.args.old.now)
    (c.in_ok-put_next_debts.ensures
    ∙ ap (λ (v : List ℕ). each_of (debt_behind rules set) v)
    (c.deref.ensures.value ∙ ap (λ (l : Labels). l.debts) c.old.view_is))
    (c.in_ok-become_next.ensures
    ∙ ap (λ (v : List (List ℕ)). each_of (ages_behind cap seen) v)
    (ap (λ (l : Labels). l.ages) c.old.view_is))
    (c.in_ok-put_next_pending.ensures
    ∙ ap (λ (v : List (Option ℕ)). each_of (pending_behind cap seen) v)
    (c.deref-2.ensures.value ∙ ap (λ (l : Labels). l.pending) c.old.view_is))
    (c.in_ok-put_next_holds.ensures
    ∙ ap (λ (v : List Hold). each_of (hold_behind cap seen) v)
    (c.deref-3.ensures.value ∙ ap (λ (l : Labels). l.holds) c.old.view_is))
    (c.in_ok-put_next_blocked.ensures
    ∙ ap (λ (v : List ℕ). each_of (blocked_behind lower cap seen) v)
    (c.deref-4.ensures.value ∙ ap (λ (l : Labels). l.blocked) c.old.view_is))

use Rattle.std.proofs.Common.{◌<◌, ◌+◌, cond, sym, ◌∙◌, ap}
use Rattle.std.specs.Prelude.{Some}
use Rattle.osek_base.specs.declared.limits.TheConstants.{MAX_EVENTS}
use Rattle.law_nodes.specs.Early.{lesser}
use Rattle.analysis_bounds.specs.Levels.{by_event}
use Rattle.analysis_bounds.proofs.EventLemmas.{least_after, least_step}
use Rattle.analysis_bounds.proofs.events.+least_from.Goals as goal

pub returns-then-is_set : goal.returns-then-is_set
returns-then-is_set size c =
    let cost = by_event c.args.list.now c.args.task in
    let m = c.args.mask in
    let i = c.args.event in
    let low : i < MAX_EVENTS = c.if-event-ge-MAX_EVENTS.false in
    let rest = least_after cost m (i + 1) in
    ap (λ k. Some k)
    (c.lesser.ensures ∙ ap (λ k. lesser k c.least_from-rest.result) c.event_at.ensures
    ∙ ap (lesser (cost i)) c.least_from-rest.ensures)
    ∙ sym
    (least_step cost m i low
    ∙ ap (λ b. cond b (Some (lesser (cost i) rest)) rest) (sym c.is_set.ensures ∙ c.if-is_set.true))

pub returns-else-is_set : goal.returns-else-is_set
returns-else-is_set size c =
    let cost = by_event c.args.list.now c.args.task in
    let m = c.args.mask in
    let i = c.args.event in
    let low : i < MAX_EVENTS = c.if-event-ge-MAX_EVENTS.false in
    let rest = least_after cost m (i + 1) in
    c.least_from-rest.ensures
    ∙ sym
    (least_step cost m i low
    ∙ ap (λ b. cond b (Some (lesser (cost i) rest)) rest) (sym c.is_set.ensures ∙ c.if-is_set.false))

use Rattle.std.proofs.Common.{◌+◌, cond, sym, ◌∙◌, ap}
use Rattle.std.specs.List.{filter, sum_by}
use Rattle.osek_base.specs.Lists.{below}
use Rattle.analysis_bounds.specs.Events.{is_summed}
use Rattle.analysis_bounds.specs.Levels.{by_event}
use Rattle.analysis_bounds.proofs.EventLemmas.{sum_passing}
use Rattle.analysis_bounds.proofs.SumLemmas.{add_zero}
use Rattle.analysis_bounds.proofs.events.sum_events.Goals as goal
use Rattle.analysis_bounds.proofs.events.sum_events.Goals.{then-is_summed+in_ok-sum, else-is_summed}

pub loop-event-preserved : goal.loop-event-preserved
loop-event-preserved c =
    let f = by_event c.args.list.now c.args.task in
    let k = c.loop-event.event in
    let whole = sum_passing f (is_summed c.args.mask c.args.besides) k in
    let before = c.loop-event.invariant in
    let so_far =
    sum_by f (filter (is_summed c.args.mask c.args.besides) (below k)) in
    elim c.if-is_summed.branch [
      | then-is_summed+in_ok-sum w ↦
          w.sum-is ∙ w.in_ok-sum.ensures.1
          ∙ ap (λ n. c.loop-event.sum + n) w.event_at.ensures
          ∙ ap (λ n. n + f k) before
          ∙ sym (whole ∙ ap (λ b. so_far + cond b (f k) 0) (sym c.is_summed.ensures ∙ w.if-is_summed.true))
      | else-is_summed w ↦
          w.sum-is ∙ before ∙ add_zero so_far
          ∙ sym (whole ∙ ap (λ b. so_far + cond b (f k) 0) (sym c.is_summed.ensures ∙ w.if-is_summed.false))
    ]

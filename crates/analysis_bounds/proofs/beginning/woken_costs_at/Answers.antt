use Rattle.std.proofs.Common.{◌≡◌, ◌+◌, true, subst, ◌∙◌, ap}
use Rattle.law_nodes.specs.Early.{sum_besides}
use Rattle.analysis_bounds.specs.Checks.{cost_each}
use Rattle.analysis_bounds.specs.Levels.{by_event}
use Rattle.analysis_bounds.proofs.EventLemmas.{mask_is}
use Rattle.analysis_bounds.proofs.NodeLemmas.{numbered_is}
use Rattle.analysis_bounds.proofs.beginning.woken_costs_at.Goals as goal

pub returns : goal.returns
returns c h =
    let level = c.args.level.now in
    let held = by_event level.holds.items c.args.task in (
      mask_is c.args.mask c.ranges.mask.fits,
      λ n price there paid.
          subst
          (λ least. cost_each (by_event level.sets.items c.args.task) c.args.mask least ≡ true)
          (c.in-Some-checked_add.ensures.1
          ∙ ap (λ k. k + c.in-Some.besides)
          (c.price_at.ensures ∙ numbered_is level.prices.items c.args.woken price paid)
          ∙ ap (λ k. price + k)
          (c.in-Some.ensures ∙ ap (sum_besides held) (c.used_at-used.ensures n there)))
          (c.sets_cost_each.ensures h),
    )

use Rattle.std.proofs.Common.{ℕ, ◌+◌, ◌≡◌, Bool, true, false, cond, ◌&&◌, sym, ◌∙◌, ap, arith}
use Rattle.std.specs.List.{filter, sum_by}
use Rattle.osek_base.specs.Lists.{below}
use Rattle.osek_base.specs.System.{starts_in}
use Rattle.law_costs.specs.Paying.{is_upper}
use Rattle.analysis_bounds.specs.Levels.{numbered, weights_of}
use Rattle.analysis_bounds.proofs.SumLemmas.{add_zero, sum_passing_both}
use Rattle.analysis_bounds.proofs.prices.cost_of_boot.Goals as goal
use Rattle.analysis_bounds.proofs.prices.cost_of_boot.Goals.{then-starts_upper+in_ok-sum, else-starts_upper}

pub loop-task-preserved : goal.loop-task-preserved
loop-task-preserved c =
    let f = numbered c.args.level.now.tasks.items in
    let k = c.loop-task.task in
    let whole =
    sum_passing_both f (starts_in c.args.system.now c.args.mode)
    (is_upper c.args.system.now c.args.level.now.priority) k in
    let before = c.loop-task.invariant in
    let so_far =
    sum_by f
    (filter (is_upper c.args.system.now c.args.level.now.priority)
    (filter (starts_in c.args.system.now c.args.mode) (below k))) in
    elim c.if-starts_upper.branch [
      | then-starts_upper+in_ok-sum w ↦
          w.sum-is ∙ w.in_ok-sum.ensures.1
          ∙ ap (λ n. c.loop-task.sum + n)
          (w.number_at.ensures ∙ ap (λ list. numbered list k) w.deref.ensures.value)
          ∙ ap (λ n. n + f k) before
          ∙ sym (whole ∙ ap (λ b. so_far + cond b (f k) 0) (sym c.starts_upper.ensures ∙ w.if-starts_upper.true))
      | else-starts_upper w ↦
          w.sum-is ∙ before ∙ add_zero so_far
          ∙ sym (whole ∙ ap (λ b. so_far + cond b (f k) 0) (sym c.starts_upper.ensures ∙ w.if-starts_upper.false))
    ]

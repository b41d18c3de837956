use Rattle.std.proofs.Common.{◌≡◌, ◌+◌, ◌-◌, suc, sym, arith}
use Rattle.view_figures.proofs.AlikeLemmas.{figures_alike}
use Rattle.view_figures.proofs.figures.Figures.observe_row.Goals as goal

-- the ticks of the lists, the old figures seen as their fields
pub returns : goal.returns
returns c = λ S before are.
    let old = sym c.self.view_is in
    let count = c.args.count in
    let last = c.args.first + (count - 1) in
    let ends : suc last ≡ c.args.first + count = omega (arith, c.requires.some) in
    figures_alike S before c.args.seen.now c.args.first count _
    c.as_slice-levels.result.now
    c.as_mut_slice.result.now c.observe_each.new.figures
    c.as_mut_slice-2.result.now c.observe_each-2.new.figures
    c.as_mut_slice-3.result.now c.observe_each-3.new.figures
    c.as_mut_slice-4.result.now c.observe_each-4.new.figures
    c.added-self-inside.result last c.add_where.new.count
    c.added-self-inside.ensures ends c.requires.some
    (rw c.is_idle.ensures at c.add_where.ensures)
    (record {
      lent_levels = c.as_slice-levels.ensures.value;
      lent_tasks = c.as_mut_slice.ensures.value;
      lent_routines = c.as_mut_slice-2.ensures.value;
      lent_resources = c.as_mut_slice-3.ensures.value;
      lent_alarms = c.as_mut_slice-4.ensures.value;
      task_rows = c.observe_each.ensures;
      routine_rows = c.observe_each-2.ensures;
      resource_rows = c.observe_each-3.ensures;
      alarm_rows = c.observe_each-4.ensures;
    })
    (rw old at are)

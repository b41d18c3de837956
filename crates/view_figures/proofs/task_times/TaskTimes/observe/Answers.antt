use Rattle.std.proofs.Common.{not, ap, sym, ◌∙◌}
use Rattle.view_figures.specs.declared.task_time.TaskTime.TheVariants.{Executed}
use Rattle.view_figures.specs.declared.task_times.TaskTimes.{TaskTimes}
use Rattle.view_figures.proofs.StepLemmas.{times_more}
use Rattle.view_figures.proofs.TimeLemmas.{begun_running, runs_executed, time_stays}
use Rattle.view_figures.proofs.task_times.TaskTimes.observe.Goals as goal

-- it executes
pub returns-then-is_running : goal.returns-then-is_running
returns-then-is_running c = λ before e.
    let t = c.args.tick.now in
    let old = c.args.self.now in
    let runs = sym c.is_running.ensures ∙ c.if-is_running.true in
    let noted : TaskTimes = record old { executed = c.added-self.result } in
    time_stays t 1 before old Executed noted _ e (runs_executed t old.has_begun runs)
    (ap (λ n. record old { executed = n }) c.added-self.ensures)
    (ap (λ b. not b) c.leaves.ensures ∙ begun_running t old.has_begun runs)
    ∙ times_more t before old e

-- one count grows
pub returns : goal.returns
returns c = λ before e.
    time_stays c.args.tick.now 1 before c.args.self.now c.time.result c.note.new.self c.begun-self.result e
    c.time.ensures c.note.ensures c.begun-self.ensures
    ∙ times_more c.args.tick.now before c.args.self.now e

use Rattle.std.proofs.Common.{◌≡◌, true, false, sym, ◌∙◌, ap}
use Rattle.osek_base.specs.declared.ids.Owner.{Owner}
use Rattle.osek_base.specs.declared.status.TaskState.{TaskState}
use Rattle.kernel.specs.Progress.{Progress}
use Rattle.seen_ticks.specs.declared.task_seen.TaskSeen.{TaskSeen}
use Rattle.seen_ticks.specs.declared.task_at.TaskAt.{TaskAt}
use Rattle.seen_ticks.specs.Observed.{is_by}
use Rattle.seen_ticks.specs.Told.{task_at}
use Rattle.seen_runs.specs.Keeping.{last_tick}
use Rattle.seen_runs.proofs.Jobless.{seen_without, standing_is}
use Rattle.seen_runs.proofs.told_run.ToldRun.see_task.Goals as goal

pub returns-then-has_none-clause-seen : goal.returns-then-has_none-clause-seen
returns-then-has_none-clause-seen g c =
    let r : Progress = c.args.self.now in
    let t = c.args.task in
    let other : is_by (Owner.Task t) (last_tick r).executed ≡ false =
    sym (c.requires.by t) ∙ sym c.is_task-is_own.ensures ∙ c.if-not-is_own.true in
    let at : (task_at r.system (last_tick r).at t).state ≡ TaskState.Suspended =
    ap (λ (x : TaskAt). x.state) (sym c.requires.at) ∙ c.if-has_none.ensures.at (λ i. true) in
    c.default.ensures
    ∙ seen_without r.system (last_tick r) t other at (c.if-has_none.ensures.behind (λ i. true))
    (sym (c.if-has_none.ensures.before (λ i. true)) ∙ c.requires.jobs) (c.requires.instruction c.if-not-is_any_refused.true)
    (c.requires.alarms c.if-not-is_any_refused.true)

pub returns-then-stand-clause-seen : goal.returns-then-stand-clause-seen
returns-then-stand-clause-seen g c =
    let r : Progress = c.args.self.now in
    ap (λ (x : TaskSeen). record x { refused = c.refused-refused.result }) c.see_standing.ensures
    ∙ standing_is r.system (last_tick r) c.args.task c.args.at.now c.args.jobs.now c.refused-refused.result c.is_task-is_own.result c.requires.at
    c.requires.jobs c.refused-refused.ensures (c.is_task-is_own.ensures ∙ c.requires.by c.args.task) (c.requires.stand c.if-stand.true)

pub returns-then-stand-clause-at : goal.returns-then-stand-clause-at
returns-then-stand-clause-at g c = c.requires.at ∙ (c.requires.stand c.if-stand.true).each c.args.task

pub returns-then-stand-clause-jobs : goal.returns-then-stand-clause-jobs
returns-then-stand-clause-jobs g c =
    ap (λ (x : TaskAt). x.jobs) (c.requires.at ∙ (c.requires.stand c.if-stand.true).each c.args.task)

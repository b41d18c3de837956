use Rattle.view_timelines.proofs.SignLemmas.{routine_all, task_all}
use Rattle.view_timelines.proofs.timeline.draw_all.Goals as goal

pub returns-clause-tasks : goal.returns-clause-tasks
returns-clause-tasks c =
    task_all c.args.system.now c.args.observation.now c.args.records.now c.args.tick c.args.tasks.now c.draw_tasks.new.tracks
    c.mark_alarms.new.tasks c.mark_records.new.tasks c.keep_begun.new.tracks c.in_ok-draw_tasks.ensures c.in_ok-mark_alarms.ensures
    c.in_ok-mark_records.ensures.tasks c.keep_begun.ensures

pub returns-clause-routines : goal.returns-clause-routines
returns-clause-routines c =
    routine_all c.args.system.now c.args.observation.now c.args.records.now c.args.tick c.args.routines.now c.draw_routines.new.tracks
    c.mark_records.new.routines c.in_ok-draw_routines.ensures c.in_ok-mark_records.ensures.routines

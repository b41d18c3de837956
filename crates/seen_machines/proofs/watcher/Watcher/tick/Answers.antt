use Rattle.std.proofs.Common.{◌≡◌, ◌<◌, ℕ, List, false, map, length, sym, ◌∙◌, ap, subst}
use Rattle.std.specs.List.{AllByRecursion}
use Rattle.osek_base.specs.Lists.{below}
use Rattle.osek_base.specs.System.{System}
use Rattle.law_kept.specs.Kept.{Kept}
use Rattle.kernel.specs.Machine.{picture, system_of}
use Rattle.kernel.specs.declared.acted.Acted.{Acted}
use Rattle.law_seen.specs.Shown.{KeptTicked, ticked_in}
use Rattle.seen_machines.specs.Told.{IsOfAll, alarm_seen_by, routine_seen_by, task_seen_by}
use Rattle.seen_machines.proofs.Acting.{refused_known}
use Rattle.seen_machines.proofs.Shows.{alarms_are, answered_is, executor_is, failure_is, of_all, routines_are, seen_is, tasks_are}
use Rattle.seen_machines.proofs.Stays.{holders_stay, pending_stays}
use Rattle.seen_machines.proofs.watcher.Watcher.tick.Goals as goal

pub see-requires-clause-all : goal.see-requires-clause-all
see-requires-clause-all g c =
    let S : System = system_of c.args.machine.now in
    let w = c.tick.new.self in
    let k : KeptTicked = ticked_in S false c.args.arrived.now (picture c.args.machine.now) in
    subst (λ T. IsOfAll T w) (sym c.tick.ensures.system) (of_all S k w c.tick.ensures.told)

pub see-requires-clause-refused : goal.see-requires-clause-refused
see-requires-clause-refused g c =
    let m = c.args.machine.now in
    let acted : Acted = c.tick.new.machine.acted in
    subst (λ (T : System). AllByRecursion (λ a. a < length T.alarms) acted.refused)
    (sym c.tick.ensures.system)
    (subst (λ (x : Acted). AllByRecursion (λ a. a < length (system_of m).alarms) x.refused)
    (sym c.tick.ensures.acted) (refused_known (system_of m) (picture m)))

pub returns-clause-seen : goal.returns-clause-seen
returns-clause-seen g c =
    let m = c.args.machine.now in
    let S : System = system_of m in
    let arrived : List ℕ = c.args.arrived.now in
    let o : Kept = picture m in
    let t = c.tick in
    let w = t.new.self in
    let behind : Kept = picture t.new.machine in
    let acted : Acted = t.new.machine.acted in
    let e = t.ensures in
    let stays : behind.pending ≡ (ticked_in S false arrived o).at.pending =
    ap (λ (x : Kept). x.pending) e.after
    ∙ pending_stays g.B.Blockers.are_counted m arrived e.was_of_run in
    seen_is S arrived o c.see.new.seen
    (c.see.ensures.tasks
    ∙ ap (λ (T : System). map (task_seen_by T w behind acted) (below (length T.tasks))) e.system
    ∙ tasks_are S arrived o w behind acted e.told e.after e.acted stays)
    (c.see.ensures.routines
    ∙ ap (λ (T : System). map (routine_seen_by w behind arrived) (below (length T.routines)))
    e.system
    ∙ routines_are S arrived o w behind acted e.told e.after e.acted stays)
    (c.see.ensures.holders ∙ c.see_holders.ensures ∙ holders_stay S arrived o)
    (c.see.ensures.alarms
    ∙ ap (λ (T : System). map (alarm_seen_by acted) (below (length T.alarms))) e.system
    ∙ alarms_are S arrived o w behind acted e.told e.after e.acted stays)

pub returns-clause-executor : goal.returns-clause-executor
returns-clause-executor g c =
    let m = c.args.machine.now in
    c.see.ensures.executor
    ∙ executor_is (system_of m) c.args.arrived.now (picture m) c.tick.new.self.execution.executed
    c.tick.ensures.told.executed

pub returns-clause-answered : goal.returns-clause-answered
returns-clause-answered g c =
    let m = c.args.machine.now in
    c.see.ensures.answered
    ∙ answered_is (system_of m) c.args.arrived.now (picture m) c.tick.new.self.execution.executed
    c.tick.ensures.told.executed

pub returns-clause-failure : goal.returns-clause-failure
returns-clause-failure g c =
    let m = c.args.machine.now in
    c.see.ensures.failure
    ∙ failure_is (system_of m) c.args.arrived.now (picture m) c.tick.new.self.execution.executed
    c.tick.ensures.told.executed

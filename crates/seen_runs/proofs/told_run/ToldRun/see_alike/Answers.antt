use Rattle.std.proofs.Common.{length, sym, ◌∙◌, ap}
use Rattle.kernel.specs.Progress.{Progress}
use Rattle.seen_runs.specs.Keeping.{last_tick}
use Rattle.seen_runs.proofs.Resting.{alarms_rest, routines_rest}
use Rattle.seen_runs.proofs.told_run.ToldRun.see_alike.Goals as goal

pub see_rest-requires-clause-routines : goal.see_rest-requires-clause-routines
see_rest-requires-clause-routines g c rests =
    let r : Progress = c.args.self.now in
    ap (λ v. v.items) c.see_unanswered.ensures.routines ∙ (c.requires.resting rests).routines
    ∙ sym (routines_rest (last_tick r) c.requires.leaves.rest (length r.system.routines))

pub see_rest-requires-clause-alarms : goal.see_rest-requires-clause-alarms
see_rest-requires-clause-alarms g c rests =
    let r : Progress = c.args.self.now in
    ap (λ v. v.items) c.see_unanswered.ensures.alarms ∙ (c.requires.resting rests).alarms
    ∙ sym (alarms_rest (last_tick r) c.requires.leaves.rest (length r.system.alarms))

use Rattle.std.proofs.Common.{length, sym, ◌∙◌}
use Rattle.seen_runs.specs.Keeping.{last_tick}
use Rattle.seen_runs.proofs.Resting.{routines_rest}
use Rattle.seen_runs.proofs.told_run.ToldRun.see_rest_anew.Goals as goal

pub returns-clause-routines : goal.returns-clause-routines
returns-clause-routines g c =
    let r = c.args.self.now in
    c.see_routines_at_rest.ensures ∙ sym (routines_rest (last_tick r) c.requires.rest (length r.system.routines))

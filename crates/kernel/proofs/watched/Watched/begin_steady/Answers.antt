use Rattle.std.proofs.Common.{◌∙◌}
use Rattle.kernel.proofs.SteadyLemmas.{begins_by_objects}
use Rattle.kernel.proofs.WatchLemmas.{watched_of}
use Rattle.kernel.proofs.watched.Watched.begin_steady.Goals as goal

pub returns : goal.returns
returns g c =
    let was = c.self-inside.inside.0.0 in
    let is = (λ i. watched_of (c.self-inside.view_is i).processor (c.self-inside.view_is i).blocking) ∙ c.self.view_is in
    begins_by_objects c.args.self.now was.core c.begin_quiet.new.self was.windows _ c.in_ok-task.task is c.in_ok-task.ensures
    (c.begin_quiet.ensures.begins c.if-not-begin_quiet.false)

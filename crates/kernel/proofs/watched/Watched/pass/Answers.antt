use Rattle.std.proofs.Common.{◌∙◌}
use Rattle.kernel.proofs.QuietLemmas.{passed_by_objects}
use Rattle.kernel.proofs.WatchLemmas.{watched_of}
use Rattle.kernel.proofs.watched.Watched.pass.Goals as goal

pub returns-then-passed-gt0 : goal.returns-then-passed-gt0
returns-then-passed-gt0 g c =
    let was = c.self-inside.inside.0.0 in
    let r = c.pass-passed in
    passed_by_objects c.args.most r.result c.args.self.now was.core r.new.self was.windows c.self-inside.inside.0.1.0 c.rest.new.self
    ((λ i. watched_of (c.self-inside.view_is i).processor (c.self-inside.view_is i).blocking) ∙ c.self.view_is)
    r.ensures.few r.ensures.passed c.if-passed-gt0.true c.rest.ensures

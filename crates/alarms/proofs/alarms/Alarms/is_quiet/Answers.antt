use Rattle.std.proofs.Common.{◌<◌, arith, subst}
use Rattle.alarms.specs.Alarms.{AreQuietFor}
use Rattle.alarms.proofs.TableOfLemmas.{quiet_next}
use Rattle.alarms.proofs.alarms.Alarms.is_quiet.Goals as goal

pub returns : goal.returns
returns c = λ known.
    let more : c.self.inside.ahead < c.self.inside.quiet = grind (arith, known) in
    subst (AreQuietFor 1) c.self.view_is (quiet_next c.self.inside.ahead c.self.inside.quiet c.self.inside.counted c.self.invariant more)

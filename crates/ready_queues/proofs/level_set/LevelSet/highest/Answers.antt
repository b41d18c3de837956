use Rattle.std.proofs.Common.{subst}
use Rattle.ready_queues.specs.LevelSet.{IsHighest}
use Rattle.ready_queues.proofs.WordLemmas.{highest_bit}
use Rattle.ready_queues.proofs.level_set.LevelSet.highest.Goals as goal

pub returns-clause-some : goal.returns-clause-some
returns-clause-some c =
    subst (IsHighest c.in_ok-level.level) c.self.view_is
    (highest_bit c.self.inside.word c.in_ok-level.level c.in_ok-level.ensures.bound c.in_ok-level.ensures.power_le
    c.in_ok-level.ensures.next_power_gt)

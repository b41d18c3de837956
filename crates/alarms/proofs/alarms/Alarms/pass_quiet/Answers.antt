use Rattle.std.proofs.Common.{◌≡◌, ◌+◌, ap, arith, subst}
use Rattle.alarms.specs.Alarms.{AlarmTable, AreQuietFor, HavePassed, later}
use Rattle.alarms.proofs.TableOfLemmas.{have_passed, quiet_next}
use Rattle.alarms.proofs.alarms.Alarms.pass_quiet.Goals as goal

pub returns-then-self-clause-quiet : goal.returns-then-self-clause-quiet
returns-then-self-clause-quiet c = λ known.
    subst (AreQuietFor 1) c.self.view_is (quiet_next c.self.inside.ahead c.self.inside.quiet c.self.inside.counted c.self.invariant c.if-self.true)

pub returns-then-self-clause-passed : goal.returns-then-self-clause-passed
returns-then-self-clause-passed c = λ known.
    let k = c.self.inside in
    let t : AlarmTable = k.counted in
    let more : t.tick + (k.ahead + 1) ≡ t.tick + k.ahead + 1 = omega arith in
    subst (λ (x : AlarmTable). HavePassed 1 x (later (k.ahead + 1) t)) c.self.view_is
    (have_passed 1 (later k.ahead t) (later (k.ahead + 1) t) (quiet_next k.ahead k.quiet t c.self.invariant c.if-self.true)
    (ap (λ n. record t { tick = n }) more))

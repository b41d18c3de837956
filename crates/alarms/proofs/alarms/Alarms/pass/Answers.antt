use Rattle.std.proofs.Common.{◌≡◌, ◌<◌, ◌+◌, ◌-◌, ◌∙◌, [], ap, sym, subst, arith}
use Rattle.alarms.specs.Alarms.{AlarmTable, AreQuietFor, due_of, later}
use Rattle.alarms.proofs.TableOfLemmas.{have_passed, quiet_less, quiet_longer}
use Rattle.alarms.proofs.alarms.Alarms.pass.Goals as goal

pub returns-clause-passed : goal.returns-clause-passed
returns-clause-passed c =
    let is : c.pass.new.self ≡ c.args.self.now = c.pass.ensures ∙ c.self.view_is in
    have_passed c.min-self-inside.result c.args.self.now (later c.min-self-inside.result c.pass.new.self)
    (quiet_less c.min-self-inside.result c.quiet_ticks-self-inside.result c.args.self.now (omega (arith, c.min-self-inside.ensures))
    (subst (AreQuietFor c.quiet_ticks-self-inside.result) is c.quiet_ticks-self-inside.ensures.quiet))
    (ap (later c.min-self-inside.result) is)

pub returns-clause-last : goal.returns-clause-last
returns-clause-last c = λ some S table none.
    let is : c.pass.new.self ≡ c.args.self.now = c.pass.ensures ∙ c.self.view_is in
    let tick : c.pass.new.self.tick ≡ c.args.self.now.tick = ap (λ (t : AlarmTable). t.tick) is in
    let one : c.min-self-inside.result ≡ c.quiet_ticks-self-inside.result = omega (arith, c.min-self-inside.ensures) in
    let more : c.quiet_ticks-self-inside.result < 999999 - c.tick.result = omega (arith, c.min-self-inside.ensures, c.tick.ensures.value, c.requires) in
    c.quiet_ticks-self-inside.ensures.last more
    (subst (AreQuietFor (c.quiet_ticks-self-inside.result + 1)) (sym is)
    (quiet_longer S c.quiet_ticks-self-inside.result c.args.self.now table (subst (AreQuietFor c.quiet_ticks-self-inside.result) is c.quiet_ticks-self-inside.ensures.quiet)
    (subst (λ n. due_of S (later (n + 1) c.args.self.now) ≡ []) one none)))

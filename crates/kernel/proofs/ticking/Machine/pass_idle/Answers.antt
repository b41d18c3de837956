use Rattle.std.proofs.Common.{arith}
use Rattle.kernel.proofs.IdleLemmas.{machine_idles}
use Rattle.kernel.proofs.ticking.Machine.pass_idle.Goals as goal

pub invariant_of-self : goal.invariant_of-self
invariant_of-self g c =
    let k = c.self.inside in
    (machine_idles g.B.Blockers.are_counted k.ticks k.watched k.opening k.acted c.pass-idle.new.self c.clear.new.self
    c.args.most c.pass-idle.result c.args.self.now c.core.result.now c.self.view_is c.self.invariant
    (omega (arith, c.if-self-eq0.false)) c.core.ensures (c.is_quiet-is_quiet.ensures c.if-not-is_quiet.false)
    c.clear.ensures c.requires c.if-idle-gt0.true c.pass-idle.ensures).keeps

pub returns-then-idle-gt0 : goal.returns-then-idle-gt0
returns-then-idle-gt0 g c =
    let k = c.self.inside in
    (machine_idles g.B.Blockers.are_counted k.ticks k.watched k.opening k.acted c.pass-idle.new.self c.clear.new.self
    c.args.most c.pass-idle.result c.args.self.now c.core.result.now c.self.view_is c.self.invariant
    (omega (arith, c.if-self-eq0.false)) c.core.ensures (c.is_quiet-is_quiet.ensures c.if-not-is_quiet.false)
    c.clear.ensures c.requires c.if-idle-gt0.true c.pass-idle.ensures).idled

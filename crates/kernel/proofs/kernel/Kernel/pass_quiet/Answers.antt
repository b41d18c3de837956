use Rattle.kernel.proofs.IdleRuns.{kernel_idles}
use Rattle.kernel.proofs.kernel.Kernel.pass_quiet.Goals as goal

pub invariant_of-self : goal.invariant_of-self
invariant_of-self g c =
    let k = c.self.inside in
    let r = c.pass_idle-idle in
    (kernel_idles g.B.Blockers.are_counted k.system.now k.mode k.arrivals c.list.result.now k.routines.items k.earlier
    k.arrived k.next c.next_tick-tick.result c.args.most c.ticks_before-free.result r.result c.args.self.now k.machine r.new.self
    c.self.view_is c.self.invariant c.list.ensures.value c.next_tick-tick.ensures.value c.ticks_before-free.ensures
    r.ensures c.if-idle-gt0.true).keeps

pub returns-then-idle-gt0 : goal.returns-then-idle-gt0
returns-then-idle-gt0 g c =
    let k = c.self.inside in
    let r = c.pass_idle-idle in
    (kernel_idles g.B.Blockers.are_counted k.system.now k.mode k.arrivals c.list.result.now k.routines.items k.earlier
    k.arrived k.next c.next_tick-tick.result c.args.most c.ticks_before-free.result r.result c.args.self.now k.machine r.new.self
    c.self.view_is c.self.invariant c.list.ensures.value c.next_tick-tick.ensures.value c.ticks_before-free.ensures
    r.ensures c.if-idle-gt0.true).idled

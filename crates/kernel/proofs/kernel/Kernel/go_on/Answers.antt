use Rattle.std.proofs.Common.{inl, inr, subst}
use Rattle.kernel.specs.Begun.{HasGoneOn}
use Rattle.kernel.specs.Machine.{next_tick}
use Rattle.kernel.proofs.IdleRuns.{progress}
use Rattle.kernel.proofs.GoingLemmas.{has_gone_on, kernel_goes, may_go_on, taken}
use Rattle.kernel.proofs.kernel.Kernel.go_on.Goals as goal

pub go_on-requires-clause-may : goal.go_on-requires-clause-may
go_on-requires-clause-may g c =
    let k = c.self.inside in
    let a = c.take_arrived-arrived in
    may_go_on g.B.Blockers.are_counted k.system.now k.mode k.arrivals k.routines.items k.earlier k.arrived k.next
    c.args.self.now k.machine c.self.view_is c.self.invariant a.new.arrived a.new.next a.result.now
    (taken k.arrivals c.list.result.now (next_tick k.machine) c.next_tick-tick.result k.arrived k.next a.new.arrived a.new.next
    a.result.now c.list.ensures.value c.next_tick-tick.ensures.value a.ensures)
    c.args.behind.now c.requires.ticks c.requires.empty

pub invariant_of-self-in-First : goal.invariant_of-self-in-First
invariant_of-self-in-First g c =
    let k = c.self.inside in
    let a = c.take_arrived-arrived in
    let r = c.go_on in
    kernel_goes g.B.Blockers.are_counted k.system.now k.mode k.arrivals k.routines.items k.earlier k.arrived k.next
    c.args.self.now k.machine c.self.view_is c.self.invariant a.new.arrived a.new.next a.result.now
    (taken k.arrivals c.list.result.now (next_tick k.machine) c.next_tick-tick.result k.arrived k.next a.new.arrived a.new.next
    a.result.now c.list.ensures.value c.next_tick-tick.ensures.value a.ensures)
    r.result r.new.self r.new.before r.new.behind r.new.executed (inl (c.in-First.first, c.in-First.is)) r.ensures

pub returns-in-First : goal.returns-in-First
returns-in-First g c =
    let k = c.self.inside in
    let a = c.take_arrived-arrived in
    let r = c.go_on in
    subst
    (HasGoneOn c.args.self.now (progress k.system.now k.mode k.arrivals r.new.self) r.new.before r.new.behind r.new.executed)
    c.in-First.is
    (has_gone_on g.B.Blockers.are_counted k.system.now k.mode k.arrivals k.routines.items k.earlier k.arrived k.next
    c.args.self.now k.machine c.self.view_is c.self.invariant a.new.arrived a.new.next a.result.now
    (taken k.arrivals c.list.result.now (next_tick k.machine) c.next_tick-tick.result k.arrived k.next a.new.arrived a.new.next
    a.result.now c.list.ensures.value c.next_tick-tick.ensures.value a.ensures)
    r.result r.new.self r.new.before r.new.behind r.new.executed r.ensures)

pub invariant_of-self-in-Any : goal.invariant_of-self-in-Any
invariant_of-self-in-Any g c =
    let k = c.self.inside in
    let a = c.take_arrived-arrived in
    let r = c.go_on in
    kernel_goes g.B.Blockers.are_counted k.system.now k.mode k.arrivals k.routines.items k.earlier k.arrived k.next
    c.args.self.now k.machine c.self.view_is c.self.invariant a.new.arrived a.new.next a.result.now
    (taken k.arrivals c.list.result.now (next_tick k.machine) c.next_tick-tick.result k.arrived k.next a.new.arrived a.new.next
    a.result.now c.list.ensures.value c.next_tick-tick.ensures.value a.ensures)
    r.result r.new.self r.new.before r.new.behind r.new.executed (inr c.in-Any.is) r.ensures

pub returns-in-Any : goal.returns-in-Any
returns-in-Any g c =
    let k = c.self.inside in
    let a = c.take_arrived-arrived in
    let r = c.go_on in
    subst
    (HasGoneOn c.args.self.now (progress k.system.now k.mode k.arrivals r.new.self) r.new.before r.new.behind r.new.executed)
    c.in-Any.is
    (has_gone_on g.B.Blockers.are_counted k.system.now k.mode k.arrivals k.routines.items k.earlier k.arrived k.next
    c.args.self.now k.machine c.self.view_is c.self.invariant a.new.arrived a.new.next a.result.now
    (taken k.arrivals c.list.result.now (next_tick k.machine) c.next_tick-tick.result k.arrived k.next a.new.arrived a.new.next
    a.result.now c.list.ensures.value c.next_tick-tick.ensures.value a.ensures)
    r.result r.new.self r.new.before r.new.behind r.new.executed r.ensures)

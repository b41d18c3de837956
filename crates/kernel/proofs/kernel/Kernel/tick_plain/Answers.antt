use Rattle.std.proofs.Common.{◌≡◌, sym, ◌∙◌}
use Rattle.kernel.specs.Machine.{next_tick}
use Rattle.kernel.proofs.SteadyRuns.{may_tick}
use Rattle.kernel.proofs.WorkRuns.{kernel_works}
use Rattle.kernel.proofs.kernel.Kernel.tick_plain.Goals as goal

pub tick_steady-requires : goal.tick_steady-requires
tick_steady-requires g c =
    let k = c.self.inside in
    may_tick g.B.Blockers.are_counted k.system.now k.mode k.arrivals k.routines.items k.earlier k.arrived k.next c.args.self.now
    k.machine c.self.view_is c.self.invariant c.requires

pub invariant_of-self-2 : goal.invariant_of-self-2
invariant_of-self-2 g c =
    let k = c.self.inside in
    let not_now : k.next ≡ next_tick k.machine → ⊥ = λ now. c.if-self-next_tick.false (now ∙ sym c.next_tick.ensures.value) in
    (kernel_works g.B.Blockers.are_counted k.system.now k.mode k.arrivals k.routines.items k.earlier k.arrived k.next
    c.args.self.now k.machine c.tick_steady.new.self c.in_ok-executed.executed c.tick_steady.new.behind c.self.view_is c.self.invariant
    c.requires not_now (c.is_working.ensures c.if-not-is_working.false) c.in_ok-executed.ensures).keeps

pub returns : goal.returns
returns g c =
    let k = c.self.inside in
    let not_now : k.next ≡ next_tick k.machine → ⊥ = λ now. c.if-self-next_tick.false (now ∙ sym c.next_tick.ensures.value) in
    (kernel_works g.B.Blockers.are_counted k.system.now k.mode k.arrivals k.routines.items k.earlier k.arrived k.next
    c.args.self.now k.machine c.tick_steady.new.self c.in_ok-executed.executed c.tick_steady.new.behind c.self.view_is c.self.invariant
    c.requires not_now (c.is_working.ensures c.if-not-is_working.false) c.in_ok-executed.ensures).works

use Rattle.std.proofs.Common.{◌≡◌, ◌<◌, ◌≤◌, false, [], refl, sym, ap, subst, arith}
use Rattle.osek_base.specs.declared.limits.TheConstants.{MAX_TICKS}
use Rattle.kernel.specs.Machine.{Machine, next_tick, picture}
use Rattle.kernel.proofs.OrderLemmas.{comes_later}
use Rattle.kernel.proofs.SteadyLemmas.{begins_tick, may_begin, may_fetch, steady_ticked}
use Rattle.kernel.proofs.TickLemmas.{has_begun, may_start}
use Rattle.kernel.proofs.ticking.Machine.tick_steady.Goals as goal

pub begin-requires-clause-may : goal.begin-requires-clause-may
begin-requires-clause-may g c =
    may_begin c.begin_steady.new.self c.in_ok-task.task c.self.inside.ticks c.in_ok-task.ensures.next
    (subst (λ (x : Machine). next_tick x < MAX_TICKS) (sym c.self.view_is) c.requires.limit)

pub begin-requires-clause-later : goal.begin-requires-clause-later
begin-requires-clause-later g c =
    let k = c.self.inside in
    comes_later g.B.Blockers.are_counted _ k.watched k.ticks k.opening k.acted c.self.invariant
    c.begin_steady.new.self.blocking.told (ap (λ b. b.told) c.in_ok-task.ensures.same)

pub finish-requires : goal.finish-requires
finish-requires g c =
    let k = c.self.inside in
    let counted = g.B.Blockers.are_counted in
    let t = c.in_ok-task.task in
    let st = c.begin_steady.new.self in
    let begun : 1 ≤ k.ticks = omega (arith, c.if-self-eq0.false) in
    let low : k.ticks < MAX_TICKS = subst (λ (x : Machine). next_tick x < MAX_TICKS) (sym c.self.view_is) c.requires.limit in
    let may = may_start counted k.watched k.ticks k.opening k.acted c.self.invariant low k.opening refl in
    record {
      fetch = may_fetch counted k.ticks st c.begin.new.self t c.in_ok-task.ensures.next c.begin.ensures;
      ready = record {
        begun =
            has_begun counted k.watched k.ticks k.opening k.acted c.self.invariant low [] st c.begin.new.self [] []
            (subst (λ (x : Machine). (picture x).over ≡ false) (sym c.self.view_is) c.requires.on)
            (begins_tick counted k.ticks k.watched k.opening may begun st t c.in_ok-task.ensures) c.begin.ensures;
        none = c.clear-2.ensures;
      };
    }

pub invariant_of-self-2 : goal.invariant_of-self-2
invariant_of-self-2 g c =
    let k = c.self.inside in
    (steady_ticked g.B.Blockers.are_counted k.ticks k.watched c.begin_steady.new.self c.begin.new.self c.finish.new.self
    k.opening c.finish.new.behind k.acted c.clear.new.self c.in_ok-task.task c.finish.result c.args.self.now c.self.view_is
    c.self.invariant (omega (arith, c.if-self-eq0.false)) c.requires c.in_ok-task.ensures c.clear.ensures c.begin.ensures
    c.finish.ensures).keeps

pub returns : goal.returns
returns g c =
    let k = c.self.inside in
    (steady_ticked g.B.Blockers.are_counted k.ticks k.watched c.begin_steady.new.self c.begin.new.self c.finish.new.self
    k.opening c.finish.new.behind k.acted c.clear.new.self c.in_ok-task.task c.finish.result c.args.self.now c.self.view_is
    c.self.invariant (omega (arith, c.if-self-eq0.false)) c.requires c.in_ok-task.ensures c.clear.ensures c.begin.ensures
    c.finish.ensures).ticked

use Rattle.std.proofs.Common.{◌<◌, [], refl, sym, subst}
use Rattle.std.specs.Prelude.{Some}
use Rattle.osek_base.specs.declared.limits.TheConstants.{MAX_TICKS}
use Rattle.kernel.specs.Machine.{Machine, next_tick}
use Rattle.kernel.proofs.GoingLemmas.{is_done, is_ready}
use Rattle.kernel.proofs.OrderLemmas.{comes_later}
use Rattle.kernel.proofs.SteadyLemmas.{may_fetch}
use Rattle.kernel.proofs.TickLemmas.{may_start}
use Rattle.kernel.proofs.ticking.Machine.go_on.Goals as goal

pub begin_tick-begun-requires-clause-may : goal.begin_tick-begun-requires-clause-may
begin_tick-begun-requires-clause-may g c =
    let k = c.self.inside in
    may_start g.B.Blockers.are_counted k.watched k.ticks k.opening k.acted c.self.invariant
    (subst (λ (x : Machine). next_tick x < MAX_TICKS) (sym c.self.view_is) c.requires.may.limit) k.opening refl

pub begin-requires-clause-later : goal.begin-requires-clause-later
begin-requires-clause-later g c =
    let k = c.self.inside in
    comes_later g.B.Blockers.are_counted _ k.watched k.ticks k.opening k.acted c.self.invariant
    c.begin_tick-begun.new.self.blocking.told c.in-Any.ensures.starts.does.told

pub begin-requires-in-First-clause-later : goal.begin-requires-in-First-clause-later
begin-requires-in-First-clause-later g c =
    let k = c.self.inside in
    comes_later g.B.Blockers.are_counted _ k.watched k.ticks k.opening k.acted c.self.invariant
    c.begin_tick-begun.new.self.blocking.told c.in-First.ensures.0.starts.does.told

pub late_apart-requires : goal.late_apart-requires
late_apart-requires g c =
    let k = c.self.inside in
    let b = c.begin_tick-begun.new in
    is_ready g.B.Blockers.are_counted c.args.arrived.now k.ticks k.watched b.self c.begin.new.self k.opening b.opening b.before
    k.acted b.acted c.args.self.now c.self.view_is c.self.invariant c.args.behind.now c.requires.may c.in-Any.ensures
    c.begin.ensures

pub invariant_of-self-in-Any : goal.invariant_of-self-in-Any
invariant_of-self-in-Any g c =
    let k = c.self.inside in
    let b = c.begin_tick-begun.new in
    let r = c.late_apart in
    (is_done g.B.Blockers.are_counted c.args.arrived.now k.ticks k.watched b.self c.begin.new.self k.opening b.opening b.before
    k.acted b.acted c.args.self.now c.self.view_is c.self.invariant c.args.behind.now c.requires.may c.in-Any.ensures
    c.begin.ensures r.new.self r.new.executed r.new.behind r.ensures).keeps

pub finish-requires : goal.finish-requires
finish-requires g c =
    let k = c.self.inside in
    let b = c.begin_tick-begun.new in
    record {
      fetch =
          may_fetch g.B.Blockers.are_counted k.ticks b.self c.begin-in-First.new.self c.in-First.task c.in-First.ensures.1
          c.begin-in-First.ensures;
      ready =
          is_ready g.B.Blockers.are_counted c.args.arrived.now k.ticks k.watched b.self c.begin-in-First.new.self k.opening b.opening []
          k.acted b.acted c.args.self.now c.self.view_is c.self.invariant c.args.behind.now c.requires.may
          c.in-First.ensures.0 c.begin-in-First.ensures;
    }

pub invariant_of-self-in-First : goal.invariant_of-self-in-First
invariant_of-self-in-First g c =
    let k = c.self.inside in
    let b = c.begin_tick-begun.new in
    let r = c.finish in
    (is_done g.B.Blockers.are_counted c.args.arrived.now k.ticks k.watched b.self c.begin-in-First.new.self k.opening b.opening []
    k.acted b.acted c.args.self.now c.self.view_is c.self.invariant c.args.behind.now c.requires.may c.in-First.ensures.0
    c.begin-in-First.ensures r.new.self (Some r.result) r.new.behind r.ensures).keeps

pub returns-in-Any : goal.returns-in-Any
returns-in-Any g c =
    let k = c.self.inside in
    let b = c.begin_tick-begun.new in
    let r = c.late_apart in
    let all = is_done g.B.Blockers.are_counted c.args.arrived.now k.ticks k.watched b.self c.begin.new.self k.opening b.opening b.before
    k.acted b.acted c.args.self.now c.self.view_is c.self.invariant c.args.behind.now c.requires.may c.in-Any.ensures
    c.begin.ensures r.new.self r.new.executed r.new.behind r.ensures in
    (all.on, all.done)

pub returns-in-First : goal.returns-in-First
returns-in-First g c =
    let k = c.self.inside in
    let b = c.begin_tick-begun.new in
    let r = c.finish in
    let all = is_done g.B.Blockers.are_counted c.args.arrived.now k.ticks k.watched b.self c.begin-in-First.new.self k.opening b.opening []
    k.acted b.acted c.args.self.now c.self.view_is c.self.invariant c.args.behind.now c.requires.may c.in-First.ensures.0
    c.begin-in-First.ensures r.new.self (Some r.result) r.new.behind r.ensures in
    (all.on, all.done)

use Rattle.std.proofs.Common.{length, ◌≡◌, ◌+◌, ◌<◌, ◌∷◌, ◌++◌, false, sym, ◌∙◌, ap, subst, arith}
use Rattle.std.specs.Prelude.{IfSome}
use Rattle.std.specs.List.{All}
use Rattle.std.proofs.lemmas.List.Elements.{recursion_from_All}
use Rattle.osek_base.specs.declared.limits.TheConstants.{MAX_TICKS}
use Rattle.osek_base.specs.Executed.{StandsIn, idle_or_executed}
use Rattle.kernel.specs.Machine.{HasTicked, Machine, Ticks, between, next_tick, picture, system_of}
use Rattle.kernel.specs.Processor.{system_of as system_in}
use Rattle.kernel.proofs.GoingLemmas.{executes_first}
use Rattle.kernel.proofs.OrderLemmas.{comes_later}
use Rattle.kernel.proofs.TickLemmas.{has_begun, may_start, ticked}
use Rattle.kernel.proofs.ticking.Machine.tick_with.Goals as goal

-- the tick is below the limit
abbrev Follows : Machine → Type 0
Follows m = next_tick m < MAX_TICKS

-- and no ShutdownOS came
abbrev IsOn : Machine → Type 0
IsOn m = (picture m).over ≡ false

pub early_phases-first-requires-clause-may : goal.early_phases-first-requires-clause-may
early_phases-first-requires-clause-may g c =
    let k = c.self.inside in
    may_start g.B.Blockers.are_counted k.watched k.ticks k.opening k.acted c.self.invariant (subst Follows (sym c.self.view_is) c.requires.limit)
    c.put_first.new.records c.put_first.ensures.value

pub executing_task-task-requires : goal.executing_task-task-requires
executing_task-task-requires g c =
    let e = c.early_phases-first in
    executes_first e.new.self e.new.before e.result e.ensures.first

pub begin-requires-clause-later : goal.begin-requires-clause-later
begin-requires-clause-later g c =
    let k = c.self.inside in
    comes_later g.B.Blockers.are_counted _ k.watched k.ticks k.opening k.acted c.self.invariant
    c.early_phases-first.new.self.blocking.told c.early_phases-first.ensures.starts.does.told

pub late_phases_of-requires-clause-ready : goal.late_phases_of-requires-clause-ready
late_phases_of-requires-clause-ready g c =
    let k = c.self.inside in
    record {
      begun =
          has_begun g.B.Blockers.are_counted k.watched k.ticks k.opening k.acted c.self.invariant (subst Follows (sym c.self.view_is) c.requires.limit)
          c.args.arrived.now c.early_phases-first.new.self c.begin.new.self c.put_first.new.records c.early_phases-first.new.before
          (subst IsOn (sym c.self.view_is) c.requires.on) c.early_phases-first.ensures.starts.does c.begin.ensures;
      none = c.clear.ensures;
    }

pub invariant_of-self : goal.invariant_of-self
invariant_of-self g c =
    let k = c.self.inside in
    let f = c.late_phases_of in
    let r = f.ensures in
    (ticked g.B.Blockers.are_counted c.args.arrived.now k.ticks k.watched c.early_phases-first.new.self c.begin.new.self r.between f.new.self
    k.opening c.put_first.new.opening c.put_first.new.records c.early_phases-first.new.before r.first f.new.behind
    k.acted c.early_phases-first.new.acted (idle_or_executed (system_in c.begin.new.self.processor) f.result) c.self.invariant (subst Follows (sym c.self.view_is) c.requires.limit)
    (subst IsOn (sym c.self.view_is) c.requires.on)
    (recursion_from_All (λ i. i < length (system_in k.watched.processor).routines) c.args.arrived.now
    (subst (λ (x : Machine). All (λ i. i < length (system_of x).routines) c.args.arrived.now) (sym c.self.view_is) c.requires.known))
    c.put_first.ensures.value c.put_first.ensures.after c.early_phases-first.ensures.starts.acted
    (record { one = c.early_phases-first.ensures.starts.does; two = c.begin.ensures; three = r.executes.does; four = r.reschedules })).keeps

pub returns-clause-done : goal.returns-clause-done
returns-clause-done g c =
    let k = c.self.inside in
    let f = c.late_phases_of in
    let r = f.ensures in
    let counted = g.B.Blockers.are_counted in
    let all = ticked g.B.Blockers.are_counted c.args.arrived.now k.ticks k.watched c.early_phases-first.new.self c.begin.new.self r.between f.new.self
    k.opening c.put_first.new.opening c.put_first.new.records c.early_phases-first.new.before r.first f.new.behind
    k.acted c.early_phases-first.new.acted (idle_or_executed (system_in c.begin.new.self.processor) f.result) c.self.invariant (subst Follows (sym c.self.view_is) c.requires.limit)
    (subst IsOn (sym c.self.view_is) c.requires.on)
    (recursion_from_All (λ i. i < length (system_in k.watched.processor).routines) c.args.arrived.now
    (subst (λ (x : Machine). All (λ i. i < length (system_of x).routines) c.args.arrived.now) (sym c.self.view_is) c.requires.known))
    c.put_first.ensures.value c.put_first.ensures.after c.early_phases-first.ensures.starts.acted
    (record { one = c.early_phases-first.ensures.starts.does; two = c.begin.ensures; three = r.executes.does; four = r.reschedules }) in
    let system : system_in c.begin.new.self.processor ≡ system_in k.watched.processor =
    ap system_in c.begin.ensures.processor ∙ c.early_phases-first.ensures.starts.does.does.system in
    let new = between f.new.self (k.ticks + 1) c.put_first.new.opening c.early_phases-first.new.acted in
    let behind = f.new.behind in
    subst (λ (x : Machine). HasTicked counted c.args.arrived.now x new c.early_phases-first.new.before f.result behind) c.self.view_is
    (record {
      ticks =
          subst (λ T. Ticks c.args.arrived.now (between k.watched k.ticks k.opening k.acted) new (c.early_phases-first.new.before ++ idle_or_executed T f.result ∷ behind))
          system all.ticks;
      goes_on = all.goes_on;
      was_of_run = c.self.invariant.of_run;
      of_run = all.keeps.of_run;
      there = subst (λ T. IfSome f.result (StandsIn T)) system r.executes.there;
      few = omega (arith, c.early_phases-first.ensures.starts.few, r.few);
      acted = c.early_phases-first.ensures.starts.acted;
    })

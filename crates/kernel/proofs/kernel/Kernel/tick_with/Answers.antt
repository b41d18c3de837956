use Rattle.std.proofs.Common.{ℕ, ◌<◌, ◌∷◌, ◌++◌, List, length, sym, ◌∙◌, ap, subst}
use Rattle.std.specs.Prelude.{IfSome}
use Rattle.std.specs.List.{All}
use Rattle.osek_base.specs.Executed.{StandsIn, idle_or_executed}
use Rattle.osek_base.specs.System.{System}
use Rattle.osek_base.specs.Trace.{arriving}
use Rattle.law_blockers.specs.Steps.{step_at}
use Rattle.law_kept.specs.Kept.{Kept, kept}
use Rattle.kernel.specs.Machine.{next_tick, system_of}
use Rattle.kernel.specs.Progress.{HasRunApart, Progress, is_over}
use Rattle.kernel.proofs.ArrivalLemmas.{arriving_known}
use Rattle.kernel.proofs.GoingLemmas.{kernel_keeps, taken}
use Rattle.kernel.proofs.LawLemmas.{lawful}
use Rattle.kernel.proofs.RunLemmas.{going}
use Rattle.kernel.proofs.TickLemmas.{executing_told, record_told}
use Rattle.kernel.proofs.kernel.Kernel.tick_with.Goals as goal

pub tick_with-requires : goal.tick_with-requires
tick_with-requires g c =
    let k = c.self.inside in
    let v = c.self.invariant in
    let m = system_of k.machine in
    let a = c.take_arrived-arrived in
    let takes = taken k.arrivals c.list.result.now (next_tick k.machine) c.next_tick-tick.result k.arrived k.next a.new.arrived a.new.next
    a.result.now c.list.ensures.value c.next_tick-tick.ensures.value a.ensures in
    let goes = going k.system.now k.mode k.arrivals (next_tick k.machine) (ap is_over c.self.view_is ∙ c.requires) in
    record {
      on = ap (λ (o : Kept). o.over) v.come.at.same ∙ goes.on;
      limit = goes.limit;
      known =
          subst (λ (xs : List ℕ). All (λ i. i < length m.routines) xs) (sym takes.lent)
          (subst (λ (T : System). All (λ i. i < length T.routines) (arriving k.arrivals (next_tick k.machine))) (sym v.come.at.system)
          (arriving_known (length k.system.now.routines) k.arrivals (next_tick k.machine) v.known));
    }

pub invariant_of-self : goal.invariant_of-self
invariant_of-self g c =
    let k = c.self.inside in
    let r = c.tick_with in
    let a = c.take_arrived-arrived in
    let takes = taken k.arrivals c.list.result.now (next_tick k.machine) c.next_tick-tick.result k.arrived k.next a.new.arrived a.new.next
    a.result.now c.list.ensures.value c.next_tick-tick.ensures.value a.ensures in
    kernel_keeps g.B.Blockers.are_counted k.system.now k.mode k.arrivals k.routines.items k.earlier k.arrived k.next
    c.args.self.now k.machine c.self.view_is c.self.invariant a.new.arrived a.new.next a.result.now (sym takes.lent)
    takes.arrive takes.ahead r.new.self r.new.before r.new.behind r.result r.ensures.done

pub returns-clause-done : goal.returns-clause-done
returns-clause-done g c =
    let k = c.self.inside in
    let v = c.self.invariant in
    let r = c.tick_with in
    let done = r.ensures.done in
    let a = c.take_arrived-arrived in
    let takes = taken k.arrivals c.list.result.now (next_tick k.machine) c.next_tick-tick.result k.arrived k.next a.new.arrived a.new.next
    a.result.now c.list.ensures.value c.next_tick-tick.ensures.value a.ensures in
    let run : ℕ → Progress = λ n. record { system = k.system.now; mode = k.mode; arrivals = k.arrivals; ticks = n } in
    subst (λ (x : Progress). HasRunApart x (run (next_tick r.new.self)) r.new.before r.result r.new.behind) c.self.view_is
    (record {
      records =
          ap (λ (T : System). r.new.before ++ idle_or_executed T r.result ∷ r.new.behind) (sym v.come.at.system)
          ∙ done.ticks.events
          ∙ record_told g.B.Blockers.are_counted k.system.now k.mode k.arrivals k.machine a.result.now
          v.proper v.come (going k.system.now k.mode k.arrivals (next_tick k.machine) (ap is_over c.self.view_is ∙ c.requires)).on
          (sym takes.lent);
      next = ap run done.ticks.next;
      lawful = lawful (run (next_tick r.new.self)) v.proper;
      there = subst (λ (T : System). IfSome r.result (StandsIn T)) v.come.at.system done.there;
      few = done.few;
      proper = v.proper;
    })

pub returns-clause-seen : goal.returns-clause-seen
returns-clause-seen g c =
    let k = c.self.inside in
    let v = c.self.invariant in
    let r = c.tick_with in
    let a = c.take_arrived-arrived in
    let takes = taken k.arrivals c.list.result.now (next_tick k.machine) c.next_tick-tick.result k.arrived k.next a.new.arrived a.new.next
    a.result.now c.list.ensures.value c.next_tick-tick.ensures.value a.ensures in
    subst (λ (x : Progress). g.L.Looker.HasSeen r.new.looker x.system (kept x.system (step_at x.system x.mode x.arrivals x.ticks).executing)) c.self.view_is
    (subst (λ (T : System). g.L.Looker.HasSeen r.new.looker T (kept k.system.now (step_at k.system.now k.mode k.arrivals (next_tick k.machine)).executing))
    v.come.at.system
    (subst (g.L.Looker.HasSeen r.new.looker (system_of k.machine))
    (executing_told g.B.Blockers.are_counted k.system.now k.mode k.arrivals k.machine a.result.now
    v.proper v.come (going k.system.now k.mode k.arrivals (next_tick k.machine) (ap is_over c.self.view_is ∙ c.requires)).on (sym takes.lent))
    r.ensures.seen))

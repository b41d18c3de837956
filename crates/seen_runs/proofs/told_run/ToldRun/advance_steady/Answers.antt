use Rattle.std.proofs.Common.{◌≡◌, false, ◌≤◌, ◌-◌, ◌++◌, ◌∷◌, List, [], length, sym, ◌∙◌, ap, ap₂, subst, arith}
use Rattle.std.specs.Prelude.{IfSome, Some}
use Rattle.osek_base.specs.declared.trace_event.TraceEvent.{TraceEvent}
use Rattle.osek_base.specs.declared.limits.TheConstants.{MAX_ARRIVALS}
use Rattle.osek_base.specs.Executed.{StandsIn, idle_or_executed}
use Rattle.kernel.specs.Progress.{Progress, is_over, run_of}
use Rattle.kernel.proofs.RunLemmas.{going}
use Rattle.seen_runs.specs.Keeping.{HasGoneSteadily, IsTelling, IsTold}
use Rattle.seen_ticks.specs.Observed.{ending, moved, refusing}
use Rattle.seen_runs.proofs.Resting.{rests_steadily}
use Rattle.seen_runs.proofs.Seeing.{one_on, state_more}
use Rattle.seen_ticks.proofs.Telling.{executed_told}
use Rattle.seen_runs.proofs.told_run.ToldRun.advance_steady.Goals as goal

pub invariant_of-self : goal.invariant_of-self
invariant_of-self g c =
    let i = c.self.inside in
    subst (λ (r : Progress). IsTelling r i.system.now i.execution i.ahead c.tick_steady.new.behind) (sym c.in_default.ensures.0)
    (subst (λ (v : List TraceEvent). IsTelling i.kernel i.system.now i.execution i.ahead v) (sym c.in_default.ensures.1) c.self.invariant)

pub invariant_of-self-2 : goal.invariant_of-self-2
invariant_of-self-2 g c =
    let k : Progress = c.self.inside.kernel in
    let t = c.tick_steady in
    let new : Progress = t.new.self in
    let steady = c.in-Some.ensures in
    let ran = steady.ran in
    let e = c.of in
    let v = c.self.invariant in
    let here = sym v.system in
    let what = Some c.in-Some.executed in
    let told = executed_told k.system [] t.new.behind what k.mode k.arrivals k.ticks ran.records in
    record {
      system = ap (λ (r : Progress). r.system) ran.next ∙ v.system;
      few = subst (λ (r : Progress). length r.arrivals ≤ MAX_ARRIVALS) (sym ran.next) v.few;
      told = λ later.
          subst
          (λ x. IsTold new.system new.mode new.arrivals (new.ticks - 1) (run_of new).state x c.clear.new.self t.new.behind)
          (sym c.replace.ensures)
          (one_on k new
          (λ S mode arrivals n. IsTold S mode arrivals n (run_of new).state e.result c.clear.new.self t.new.behind)
          ran.next
          (record {
            on =
                (going k.system k.mode k.arrivals k.ticks
                (subst (λ (r : Progress). is_over r ≡ false) (sym c.self.view_is) c.requires)).on;
            behind = state_more k new ran.next (subst (λ (r : Progress). is_over r ≡ false) (sym c.self.view_is) c.requires);
            done = record {
              executed = e.ensures.executed ∙ told;
              ending = e.ensures.ending ∙ ap (λ S. ending S what) here ∙ ap (ending k.system) told;
              refusing = e.ensures.refusing ∙ ap (λ S. refusing S what) here ∙ ap (refusing k.system) told;
              moved = e.ensures.moved ∙ ap (λ S. moved S what) here ∙ ap (moved k.system) told;
            };
            records = record {
              recorded =
                  ap₂ (λ u v. u ++ idle_or_executed k.system v ∷ t.new.behind) c.clear.ensures e.ensures.executed
                  ∙ ran.records;
              there = subst (λ v. IfSome v (StandsIn k.system)) (sym e.ensures.executed) ran.there;
              few =
                  let none = ap (λ v. length v) c.clear.ensures in
                  let few = ran.few in
                  omega (arith, none, few);
            };
          }));
    }

pub returns-clause-gone : goal.returns-clause-gone
returns-clause-gone g c done =
    let new : Progress = c.tick_steady.new.self in
    subst (λ (r : Progress). HasGoneSteadily r new) c.self.view_is
    (rests_steadily c.self.inside.kernel new c.in-Some.executed c.tick_steady.new.behind c.in-Some.ensures)

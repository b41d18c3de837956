use Rattle.std.proofs.Common.{◌≡◌, false, ◌≤◌, ◌-◌, ◌++◌, ◌∷◌, length, map, sym, ◌∙◌, ap, subst}
use Rattle.std.specs.Prelude.{IfSome}
use Rattle.osek_base.specs.declared.limits.TheConstants.{MAX_ARRIVALS}
use Rattle.osek_base.specs.Executed.{StandsIn, idle_or_executed}
use Rattle.osek_base.specs.Lists.{below}
use Rattle.kernel.specs.Progress.{Progress, is_over, run_of}
use Rattle.kernel.proofs.RunLemmas.{going}
use Rattle.seen_runs.specs.Keeping.{IsTold}
use Rattle.seen_ticks.specs.Told.{task_at}
use Rattle.seen_ticks.specs.Observed.{ending, moved, refusing, tick_at}
use Rattle.seen_runs.proofs.Seeing.{one_on, state_more}
use Rattle.seen_ticks.proofs.Telling.{executed_told}
use Rattle.seen_runs.proofs.told_run.ToldRun.advance.Goals as goal

pub invariant_of-self : goal.invariant_of-self
invariant_of-self g c =
    let k : Progress = c.self.inside.kernel in
    let t = c.tick_seen-executed in
    let new : Progress = t.new.self in
    let e = c.of in
    let v = c.self.invariant in
    let here = sym v.system in
    let told = executed_told k.system t.new.before t.new.behind t.result k.mode k.arrivals k.ticks t.ensures.done.records in
    record {
      system = ap (λ (r : Progress). r.system) t.ensures.done.next ∙ v.system;
      few = subst (λ (r : Progress). length r.arrivals ≤ MAX_ARRIVALS) (sym t.ensures.done.next) v.few;
      told = λ later.
          subst
          (λ x. IsTold new.system new.mode new.arrivals (new.ticks - 1) (run_of new).state x t.new.before t.new.behind)
          (sym c.replace.ensures)
          (one_on k new
          (λ S mode arrivals n. IsTold S mode arrivals n (run_of new).state e.result t.new.before t.new.behind)
          t.ensures.done.next
          (record {
            on =
                (going k.system k.mode k.arrivals k.ticks
                (subst (λ (r : Progress). is_over r ≡ false) (sym c.self.view_is) c.requires)).on;
            behind = state_more k new t.ensures.done.next (subst (λ (r : Progress). is_over r ≡ false) (sym c.self.view_is) c.requires);
            done = record {
              executed = e.ensures.executed ∙ told;
              ending = e.ensures.ending ∙ ap (λ S. ending S t.result) here ∙ ap (ending k.system) told;
              refusing = e.ensures.refusing ∙ ap (λ S. refusing S t.result) here ∙ ap (refusing k.system) told;
              moved = e.ensures.moved ∙ ap (λ S. moved S t.result) here ∙ ap (moved k.system) told;
            };
            records = record {
              recorded =
                  ap (λ v. t.new.before ++ idle_or_executed k.system v ∷ t.new.behind) e.ensures.executed
                  ∙ t.ensures.done.records;
              there = subst (λ v. IfSome v (StandsIn k.system)) (sym e.ensures.executed) t.ensures.done.there;
              few = t.ensures.done.few;
            };
          }));
    }

pub returns-clause-seen : goal.returns-clause-seen
returns-clause-seen g c =
    let k : Progress = c.self.inside.kernel in
    let t = c.tick_seen-executed in
    let new : Progress = t.new.self in
    one_on k new
    (λ S mode arrivals n. t.new.at.tasks.items ≡ map (task_at S (tick_at S mode arrivals n).at) (below (length S.tasks)))
    t.ensures.done.next t.ensures.seen

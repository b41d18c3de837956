use Rattle.std.proofs.Common.{◌≡◌, ◌≤◌, ◌<◌, length, sym, ◌∙◌, ap, subst, arith}
use Rattle.std.specs.Prelude.{None}
use Rattle.osek_base.specs.declared.limits.TheConstants.{MAX_ARRIVALS}
use Rattle.osek_base.specs.Proper.{IsProper}
use Rattle.kernel.specs.Progress.{Progress}
use Rattle.seen_runs.proofs.Alike.{idle_stays, stayed_told}
use Rattle.seen_runs.proofs.told_run.ToldRun.pass_idle.Goals as goal

pub invariant_of-self-2 : goal.invariant_of-self-2
invariant_of-self-2 g c =
    let k : Progress = c.self.inside.kernel in
    let p = c.pass_idle-passed in
    let new : Progress = p.new.self in
    let e = c.of-self-inside in
    let v = c.self.invariant in
    let system : new.system ≡ c.self.inside.system.now = ap (λ (r : Progress). r.system) p.ensures.next ∙ v.system in
    let here = sym system in
    let some : 0 < p.result = omega (arith, c.if-passed-eq0.false) in
    let proper : IsProper k.system = subst IsProper (sym v.system) c.shows_proper.ensures in
    record {
      system = system;
      few = subst (λ (r : Progress). length r.arrivals ≤ MAX_ARRIVALS) (sym p.ensures.next) v.few;
      told = λ later.
          stayed_told g.B.Blockers.are_counted c.args.most p.result k new None
          (idle_stays g.B.Blockers.are_counted c.args.most p.result k new p.ensures) some proper e.result c.clear.new.self c.clear-2.new.self
          (record {
            executed = e.ensures.executed;
            ending = e.ensures.ending;
            refusing = e.ensures.refusing;
            moved = e.ensures.moved;
            there = tt;
            none_ahead = c.clear.ensures;
            none_behind = c.clear-2.ensures;
          });
    }

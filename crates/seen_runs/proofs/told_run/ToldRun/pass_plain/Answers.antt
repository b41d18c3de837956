use Rattle.std.proofs.Common.{◌≤◌, ◌<◌, length, refl, sym, ◌∙◌, ap, subst, arith}
use Rattle.std.specs.Prelude.{IfSome}
use Rattle.osek_base.specs.declared.limits.TheConstants.{MAX_ARRIVALS}
use Rattle.osek_base.specs.Executed.{StandsIn}
use Rattle.osek_base.specs.Proper.{IsProper}
use Rattle.osek_base.specs.System.{System}
use Rattle.kernel.specs.Progress.{Progress}
use Rattle.seen_runs.specs.Passing.{StaysOn}
use Rattle.seen_runs.proofs.Alike.{stayed_told, work_stays}
use Rattle.seen_runs.proofs.told_run.ToldRun.pass_plain.Goals as goal

pub invariant_of-self-2 : goal.invariant_of-self-2
invariant_of-self-2 g c =
    let k : Progress = c.self.inside.kernel in
    let p = c.pass_plain-worked in
    let w = p.ensures.worked in
    let new : Progress = p.new.self in
    let v = c.self.invariant in
    let some : 0 < p.result = omega (arith, c.if-worked-eq0.false) in
    let proper : IsProper k.system = subst IsProper (sym v.system) c.shows_proper.ensures in
    record {
      system = ap (λ (r : Progress). r.system) w.next ∙ v.system;
      few = subst (λ (r : Progress). length r.arrivals ≤ MAX_ARRIVALS) (sym w.next) v.few;
      told = λ later.
          stayed_told g.B.Blockers.are_counted c.args.most p.result k new p.new.last
          (work_stays g.B.Blockers.are_counted c.args.most p.result k new p.new.last w) some proper _ c.clear.new.self c.clear-2.new.self
          (record {
            executed = refl;
            ending = refl;
            refusing = refl;
            moved = refl;
            there = subst (λ (S : System). IfSome p.new.last (StandsIn S)) (sym (ap (λ (r : Progress). r.system) w.next)) (w.there some);
            none_ahead = c.clear.ensures;
            none_behind = c.clear-2.ensures;
          });
    }

pub returns : goal.returns
returns g c =
    let p = c.pass_plain-worked in
    subst (λ (r : Progress). StaysOn g.B.Blockers.are_counted c.args.most r p.new.self p.result) c.self.view_is
    (record {
      last = p.new.last;
      stayed = work_stays g.B.Blockers.are_counted c.args.most p.result c.self.inside.kernel p.new.self p.new.last p.ensures.worked;
    })

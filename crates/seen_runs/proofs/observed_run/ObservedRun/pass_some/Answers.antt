use Rattle.std.proofs.Common.{◌≡◌, ◌+◌, ◌≤◌, ◌<◌, false, length, map, sym, ◌∙◌, ap, subst, arith}
use Rattle.osek_base.specs.Lists.{below}
use Rattle.osek_base.specs.State.{State}
use Rattle.kernel.specs.Progress.{Progress, is_over}
use Rattle.seen_ticks.specs.Told.{task_at}
use Rattle.seen_runs.specs.Keeping.{last_tick}
use Rattle.seen_runs.specs.Resting.{AreAtRest}
use Rattle.seen_runs.proofs.Resting.{rested}
use Rattle.kernel.proofs.RunLemmas.{going}
use Rattle.seen_runs.specs.Passing.{PassesAlike}
use Rattle.seen_runs.proofs.Alike.{passes_alike, stayed_after, stayed_all, stayed_held, stayed_holders, stayed_known, stayed_pending, stayed_standing, stayed_unanswered}
use Rattle.seen_runs.proofs.observed_run.ObservedRun.pass_some.Goals as goal

pub see_holders_once-requires : goal.see_holders_once-requires
see_holders_once-requires g c held =
    let p = c.pass_alike-passed in
    let some : 0 < p.result = omega (arith, c.if-passed-eq0.false) in
    c.self.invariant.held held
    ∙ stayed_held g.B.Blockers.are_counted c.min.result p.result c.self.inside.told p.new.self p.ensures.last p.ensures.stayed some

pub see_alike-requires-clause-holders : goal.see_alike-requires-clause-holders
see_alike-requires-clause-holders g c =
    let p = c.pass_alike-passed in
    let some : 0 < p.result = omega (arith, c.if-passed-eq0.false) in
    c.see_holders_once.ensures.holders
    ∙ stayed_holders g.B.Blockers.are_counted c.min.result p.result c.self.inside.told p.new.self p.ensures.last p.ensures.stayed some

pub see_alike-requires-clause-each : goal.see_alike-requires-clause-each
see_alike-requires-clause-each g c =
    let p = c.pass_alike-passed in
    let some : 0 < p.result = omega (arith, c.if-passed-eq0.false) in
    let r : Progress = p.new.self in
    let k : Progress = c.self.inside.told in
    let counted = g.B.Blockers.are_counted in
    stayed_standing counted c.min.result p.result k r p.ensures.last p.ensures.stayed some c.see_holders_once.ensures.proper c.self.inside.at
    (c.self.invariant.standing (p.ensures.stayed.not_first some))
    ∙ ap (λ (s : State). map (task_at r.system s) (below (length r.system.tasks)))
    (stayed_after counted c.min.result p.result k r p.ensures.last p.ensures.stayed some)

pub see_alike-requires-clause-resting : goal.see_alike-requires-clause-resting
see_alike-requires-clause-resting g c rests =
    let p = c.pass_alike-passed in
    let some : 0 < p.result = omega (arith, c.if-passed-eq0.false) in
    let r : Progress = p.new.self in
    let k : Progress = c.self.inside.told in
    let counted = g.B.Blockers.are_counted in
    let stood : AreAtRest k.system (last_tick r).at.pending c.self.inside.seen =
    subst (λ v. AreAtRest k.system v c.self.inside.seen)
    (stayed_pending counted c.min.result p.result k r p.ensures.last p.ensures.stayed some) (c.self.invariant.resting rests) in
    let now : AreAtRest r.system (last_tick r).at.pending c.self.inside.seen =
    subst (λ S. AreAtRest S (last_tick r).at.pending c.self.inside.seen)
    (sym (ap (λ (x : Progress). x.system) p.ensures.stayed.next)) stood in
    record { routines = now.routines; alarms = now.alarms }

pub see_alike-requires-clause-leaves : goal.see_alike-requires-clause-leaves
see_alike-requires-clause-leaves g c =
    let p = c.pass_alike-passed in
    let some : 0 < p.result = omega (arith, c.if-passed-eq0.false) in
    stayed_all g.B.Blockers.are_counted c.min.result p.result c.self.inside.told p.new.self p.ensures.last p.ensures.stayed some
    c.see_holders_once.ensures.proper

pub see_alike-requires-clause-none : goal.see_alike-requires-clause-none
see_alike-requires-clause-none g c =
    let p = c.pass_alike-passed in
    let some : 0 < p.result = omega (arith, c.if-passed-eq0.false) in
    stayed_unanswered g.B.Blockers.are_counted c.min.result p.result c.self.inside.told p.new.self p.ensures.last p.ensures.stayed some

pub invariant_of-self-2 : goal.invariant_of-self-2
invariant_of-self-2 g c =
    let p = c.pass_alike-passed in
    let some : 0 < p.result = omega (arith, c.if-passed-eq0.false) in
    record {
      known =
          stayed_known g.B.Blockers.are_counted c.min.result p.result c.self.inside.told p.new.self p.ensures.last p.ensures.stayed some
          c.self.inside.before c.self.invariant.known;
      standing = λ later.
          stayed_standing g.B.Blockers.are_counted c.min.result p.result c.self.inside.told p.new.self p.ensures.last p.ensures.stayed some
          c.see_holders_once.ensures.proper c.self.inside.at (c.self.invariant.standing (p.ensures.stayed.not_first some));
      observed = λ later. c.see_alike.ensures;
      resting = λ _.
          rested p.new.self c.see_alike.new.seen
          (stayed_all g.B.Blockers.are_counted c.min.result p.result c.self.inside.told p.new.self p.ensures.last p.ensures.stayed some
          c.see_holders_once.ensures.proper).rest c.see_alike.ensures.seen
          (stayed_after g.B.Blockers.are_counted c.min.result p.result c.self.inside.told p.new.self p.ensures.last p.ensures.stayed some);
      held = λ _.
          c.see_alike.ensures.seen.holders
          ∙ sym (stayed_holders g.B.Blockers.are_counted c.min.result p.result c.self.inside.told p.new.self p.ensures.last p.ensures.stayed some);
    }

pub returns : goal.returns
returns g c =
    let p = c.pass_alike-passed in
    let counted = g.B.Blockers.are_counted in
    let some : 0 < p.result = omega (arith, c.if-passed-eq0.false) in
    let less : c.min.result ≤ c.args.most = grind (arith, c.min.ensures) in
    let k : Progress = c.self.inside.told in
    let on : is_over k ≡ false = sym c.is_over.ensures ∙ c.if-is_over.false in
    let limit : k.ticks < 1000000 = (going k.system k.mode k.arrivals k.ticks on).limit in
    let room : k.ticks + c.min.result ≤ 1000000 = grind (arith, c.min.ensures, c.ticks-left.ensures, limit) in
    subst (λ (r : Progress). PassesAlike counted c.args.most r p.new.self p.result) c.self.view_is
    (passes_alike counted c.min.result p.result c.self.inside.told p.new.self p.ensures.last p.ensures.stayed some c.args.most less
    room c.see_holders_once.ensures.proper)

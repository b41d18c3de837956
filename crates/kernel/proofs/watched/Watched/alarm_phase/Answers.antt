use Rattle.std.proofs.Common.{◌≤◌, sym, ◌∙◌, ap₂, subst, arith}
use Rattle.osek_base.specs.declared.limits.TheConstants.{MAX_ALARMS}
use Rattle.law_kept.specs.KeptService.{bare}
use Rattle.kernel.specs.Processor.{IsBefore, clocked, picture, system_of}
use Rattle.kernel.specs.Watches.{MayAct, Starts, Watched, phase_of_alarms}
use Rattle.kernel.proofs.ActLemmas.{due_known}
use Rattle.kernel.proofs.WatchLemmas.{first_watched, may_act_advanced, phase_watched, watched_of}
use Rattle.kernel.proofs.ToldLemmas.{both, first_acted, phase_acted}
use Rattle.kernel.proofs.watched.Watched.alarm_phase.Goals as goal

pub alarms_act-requires : goal.alarms_act-requires
alarms_act-requires g c =
    let counted = g.B.Blockers.are_counted in
    let m = c.self.inside.processor in
    let w : Watched = watched_of m c.self.inside.blocking in
    record {
      known =
          due_known (system_of m) (system_of c.advance.new.self) (bare (picture (clocked m))) c.advance.new.due c.advance.ensures.advanced.system
          c.advance.ensures.due;
      may = may_act_advanced counted w c.advance.new.self c.advance.ensures.advanced (subst (λ x. MayAct counted x) (sym c.self.view_is) c.requires.may);
      none = c.requires.none_later c.if-tick-gt0.true;
      fresh = c.clear.ensures;
    }

pub returns-then-tick-gt0 : goal.returns-then-tick-gt0
returns-then-tick-gt0 g c =
    let counted = g.B.Blockers.are_counted in
    let w : Watched = watched_of c.self.inside.processor c.self.inside.blocking in
    let acts = c.alarms_act in
    let before = subst (λ (x : Watched). IsBefore c.args.tick x.processor) (sym c.self.view_is) c.requires.before in
    subst (λ (x : Watched).
    Starts counted MAX_ALARMS phase_of_alarms c.args.tick x acts.new.self c.args.records.now acts.new.records (both c.advance.new.due acts.new.refused))
    c.self.view_is
    (record {
      does =
          phase_watched counted w c.advance.new.self acts.new.self c.args.tick c.advance.new.due c.args.records.now acts.new.records
          before c.if-tick-gt0.true (c.requires.none_later c.if-tick-gt0.true) c.advance.ensures.due c.advance.ensures.advanced acts.ensures.does;
      acted =
          phase_acted w.processor c.advance.new.self c.args.tick c.advance.new.due acts.new.refused before c.if-tick-gt0.true c.advance.ensures.due
          c.advance.ensures.advanced acts.ensures.refused;
      few = acts.ensures.few;
    })

pub returns-else-tick-gt0 : goal.returns-else-tick-gt0
returns-else-tick-gt0 g c =
    let low : c.args.tick ≤ 0 = c.if-tick-gt0.false in
    record {
      does = first_watched g.B.Blockers.are_counted c.args.self.now c.args.tick c.args.records.now c.requires.before c.if-tick-gt0.false;
      acted =
          ap₂ both c.clear-else-tick-gt0.ensures c.clear-else-tick-gt0-2.ensures
          ∙ first_acted c.args.self.now.processor c.args.tick c.requires.before (omega (arith, low));
      few = omega (arith, c.requires.room);
    }

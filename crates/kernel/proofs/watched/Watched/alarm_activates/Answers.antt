use Rattle.std.proofs.Common.{sym, subst}
use Rattle.kernel.specs.Answered.{Activates}
use Rattle.kernel.specs.Processor.{system_of}
use Rattle.kernel.specs.Watches.{AlarmActs, MayAct, Watched}
use Rattle.kernel.proofs.AnsweredStamps.{activated_watched, acts_inside, may_activate}
use Rattle.kernel.proofs.WatchLemmas.{may_act_more, watched_of}
use Rattle.kernel.proofs.watched.Watched.alarm_activates.Goals as goal

pub activated-requires : goal.activated-requires
activated-requires g c = λ on.
    let k = c.self.inside in
    let may = subst (MayAct g.B.Blockers.are_counted) (sym c.self.view_is) c.requires.may.may in
    let is = subst (λ (w : Watched). Activates (system_of w.processor) c.args.alarm c.args.task) (sym c.self.view_is) c.requires.task in
    may_activate k.processor c.args.alarm c.args.task k.blocking.stamps c.alarm_acts-status.result is (may.each on) (c.self.invariant.sized on)
    c.alarm_acts-status.ensures.status

pub returns : goal.returns
returns g c =
    let counted = g.B.Blockers.are_counted in
    let old : Watched = watched_of c.self.inside.processor c.self.inside.blocking in
    let new : Watched = watched_of c.alarm_acts-status.new.self c.activated.new.self in
    let r = c.alarm_acts-status in
    let may = subst (MayAct counted) (sym c.self.view_is) c.requires.may.may in
    let is = subst (λ (w : Watched). Activates (system_of w.processor) c.args.alarm c.args.task) (sym c.self.view_is) c.requires.task in
    let acted = activated_watched counted c.args.alarm c.args.task c.args.tick old r.new.self c.activated.new.self r.result
    c.args.records.now r.new.records is may.each r.ensures.does r.ensures.status c.activated.ensures.stamps c.activated.ensures.told in
    subst (λ w. AlarmActs counted c.args.alarm c.args.tick w new c.args.records.now r.new.records r.result) c.self.view_is
    (record {
      does = acted;
      may = may_act_more counted c.args.alarm c.args.tick old new c.args.records.now r.new.records acted (λ on. acts_inside c.self.inside.processor c.args.alarm c.args.task c.self.inside.blocking.stamps is (c.self.invariant.sized on)) may;
      status = r.ensures.status;
      few = r.ensures.few;
    })

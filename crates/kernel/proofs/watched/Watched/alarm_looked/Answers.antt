use Rattle.std.proofs.Common.{◌<◌, length, sym, subst}
use Rattle.kernel.specs.declared.stamping.Look.{Look}
use Rattle.kernel.specs.Stamping.{MayLook}
use Rattle.kernel.specs.Watches.{AlarmActs, MayAct, Watched}
use Rattle.kernel.proofs.WatchLemmas.{acts_watched, may_act_more, watched_of}
use Rattle.kernel.proofs.watched.Watched.alarm_looked.Goals as goal

pub restamp-requires : goal.restamp-requires
restamp-requires g c = λ on.
    let k = c.self.inside in
    let task = c.acted_on-task in
    let may = subst (MayAct g.B.Blockers.are_counted) (sym c.self.view_is) c.requires.may in
    subst (λ (v : Look). MayLook v c.look.result k.blocking.stamps) (sym c.look-before.ensures.value)
    (record {
      task = subst (λ n. task.result < n) (sym (c.self.invariant.sized on)) task.ensures.known;
      counted = may.each on task.result;
      few = c.look.ensures.few;
    })

pub returns : goal.returns
returns g c =
    let counted = g.B.Blockers.are_counted in
    let old : Watched = watched_of c.self.inside.processor c.self.inside.blocking in
    let new : Watched = watched_of c.alarm_acts-status.new.self c.restamp.new.self in
    let task = c.acted_on-task in
    let r = c.alarm_acts-status in
    let acted = acts_watched counted c.args.alarm task.result c.args.tick old r.new.self c.look-before.result
    c.look.result c.restamp.new.self c.args.records.now r.new.records r.ensures.does task.ensures.value
    c.look-before.ensures.value c.look.ensures.value c.restamp.ensures.stamps c.restamp.ensures.told in
    subst (λ w. AlarmActs counted c.args.alarm c.args.tick w new c.args.records.now r.new.records r.result) c.self.view_is
    (record {
      does = acted;
      may =
          may_act_more counted c.args.alarm c.args.tick old new c.args.records.now r.new.records acted
          (λ on.
          subst (λ n. n < length c.self.inside.blocking.stamps) task.ensures.value
          (subst (λ n. task.result < n) (sym (c.self.invariant.sized on)) task.ensures.known))
          (subst (λ w. MayAct counted w) (sym c.self.view_is) c.requires.may);
      status = r.ensures.status;
      few = r.ensures.few;
    })

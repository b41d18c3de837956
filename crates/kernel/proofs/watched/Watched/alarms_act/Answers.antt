use Rattle.std.proofs.Common.{◌≡◌, ◌<◌, ◌++◌, length, ◌∙◌, ap, arith, subst}
use Rattle.kernel.specs.Watches.{Watches, acting}
use Rattle.kernel.specs.Processor.{picture, system_of}
use Rattle.seen_ticks.specs.Told.{acting_in, if_refused}
use Rattle.kernel.proofs.ToldLemmas.{refused_more}
use Rattle.kernel.proofs.WatchLemmas.{watched_more}
use Rattle.kernel.proofs.watched.Watched.alarms_act.Goals as goal

pub loop-number-preserved : goal.loop-number-preserved
loop-number-preserved g c =
    let v = c.loop-number.invariant in
    let r = c.alarm_acts-status in
    let counted = g.B.Blockers.are_counted in
    let old = c.loop-number.self in
    let low : c.loop-number.number < length c.args.due.now = omega (arith, c.loop-number-test.true, c.len-number-end.ensures.value) in
    record {
      does = watched_more counted c.args.due.now c.loop-number.number c.args.tick c.args.self.now old r.new.self c.loop-number.records r.new.records v.does
          low
          (subst (λ k. Watches counted (acting k) c.args.tick old r.new.self c.loop-number.records r.new.records) c.at-alarm.ensures r.ensures.does);
      refused =
          c.note_refusal.ensures.value
          ∙ ap (λ a. c.loop-number.refused ++ if_refused a r.result) c.at-alarm.ensures
          ∙ refused_more c.args.due.now c.loop-number.number c.args.self.now.processor old.processor c.loop-number.records v.does.does low
          c.loop-number.refused v.refused r.result
          (subst (λ k. r.result ≡ (acting_in (system_of old.processor) k (picture old.processor)).status) c.at-alarm.ensures r.ensures.status);
      fewer = omega (arith, c.note_refusal.ensures.few, v.fewer);
      may = r.ensures.may;
      few = omega (arith, r.ensures.few, v.few);
    }

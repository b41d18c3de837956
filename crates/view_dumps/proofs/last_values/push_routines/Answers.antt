use Rattle.std.proofs.Common.{◌<◌, ◌||◌, List, length, get_or, ap, ap₂, sym, ◌∙◌, arith}
use Rattle.std.proofs.lemmas.List.Folds.{list_any_more}
use Rattle.seen_ticks.specs.Seen.{unseen_routine}
use Rattle.seen_ticks.specs.declared.routine_seen.RoutineSeen.{RoutineSeen}
use Rattle.view_dumps.specs.Ticks.{loses, routine_after, routine_text}
use Rattle.view_dumps.proofs.EachLemmas.{changes_step, values_step}
use Rattle.view_dumps.proofs.last_values.push_routines.Goals as goal

pub loop-number-preserved : goal.loop-number-preserved
loop-number-preserved c =
    let i = c.loop-number.number in
    let vs = c.args.values.now in
    let xs = c.args.seen.now.items in
    let seen : i < length xs = omega arith in
    let kept : i < length vs = omega (arith, c.told-values, c.len-number-end.ensures.fits) in
    record {
      same =
          changes_step routine_after routine_text c.args.text.now c.loop-number.text c.push_changes.new.text vs c.loop-number.values xs c.deref.result.now i
          c.new-routine.result _ _ kept seen c.deref.ensures.0 c.new-routine.ensures c.loop-number.invariant.after c.loop-number.invariant.same
          c.push_changes.ensures.same;
      after =
          values_step routine_after vs c.loop-number.values xs c.deref.result.now i _ _ _ kept seen c.deref.ensures.0
          c.loop-number.invariant.after c.push_changes.ensures.after;
      lost =
          ap₂ (λ a b. a || b) c.loop-number.invariant.lost
          (ap (λ (l : List RoutineSeen). loses (get_or l i unseen_routine)) c.deref-in-loop-number.ensures.0)
          ∙ sym (list_any_more loses xs i unseen_routine seen);
      short = omega (arith, c.push_changes.ensures.short, c.loop-number.invariant.short);
    }

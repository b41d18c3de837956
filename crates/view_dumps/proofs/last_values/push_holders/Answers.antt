use Rattle.std.proofs.Common.{ℕ, ◌<◌, Option, ◌++◌, length, get_or, refl, ap, ◌∙◌, arith}
use Rattle.view_dumps.specs.Ticks.{holder_after, holder_text}
use Rattle.view_dumps.proofs.EachLemmas.{changes_step, values_step}
use Rattle.view_dumps.proofs.last_values.push_holders.Goals as goal

pub loop-number-preserved : goal.loop-number-preserved
loop-number-preserved c =
    let i = c.loop-number.number in
    let vs = c.args.values.now in
    let xs = c.args.seen.now.items in
    let text = holder_text c.args.system.now in
    let last = get_or c.loop-number.values i c.index-values-number.result in
    let seen : i < length xs = omega arith in
    let kept : i < length vs = omega (arith, c.told-values, c.len-number-end.ensures.fits) in
    record {
      same =
          changes_step holder_after text c.args.text.now c.loop-number.text c.push_holder_change.new.text vs c.loop-number.values xs
          c.deref.result.now i i c.index-values-number.result c.index-deref-number.result kept seen c.deref.ensures.0 refl c.loop-number.invariant.after
          c.loop-number.invariant.same
          (c.push_holder_change.ensures.same ∙ ap (λ (h : Option ℕ). c.loop-number.text ++ text i last h) c.index-deref-number.is);
      after =
          values_step holder_after vs c.loop-number.values xs c.deref.result.now i c.index-values-number.result _
          c.index-deref-number.result kept seen c.deref.ensures.0 c.loop-number.invariant.after
          (c.push_holder_change.ensures.after ∙ ap (λ (h : Option ℕ). holder_after last h) c.index-deref-number.is);
      short = omega (arith, c.push_holder_change.ensures.short, c.loop-number.invariant.short);
    }

use Rattle.std.proofs.Common.{◌≡◌, ◌∙◌, ◌<◌, length, suc, ◌+◌, arith}
use Rattle.services.proofs.CopyLemmas.{one_more}
use Rattle.services.proofs.copying.copy_windows.Goals as goal

pub loop-number-preserved : goal.loop-number-preserved
loop-number-preserved c =
    let n = c.loop-number.number in
    let element = c.copy_from.ensures ∙ c.index-others-number.is in
    let low : n < length c.args.others.now = omega (arith, c.loop-number-test.true, c.requires) in
    let next : n + 1 ≡ suc n = omega arith in
    rw (element, c.loop-number.invariant, next) (one_more c.args.others.now c.args.windows.now n c.index-others-number.result c.requires low)

use Rattle.std.proofs.Common.{ap, sym, ◌∙◌}
use Rattle.search_packed.specs.Packed.{bare, hold_bytes}
use Rattle.search_packed.proofs.ZeroLemmas.{next_zero}
use Rattle.search_packed.proofs.zeros.are_free.Goals as goal

pub loop-hold-preserved : goal.loop-hold-preserved
loop-hold-preserved c =
    next_zero hold_bytes c.args.holds.now c.loop-hold.hold-index c.hold-item.result
    c.loop-hold-test.true c.loop-hold.invariant
    (ap (λ h. bare (hold_bytes h)) (sym c.hold-item.is) ∙ c.is_free.ensures c.if-not-is_free.false)

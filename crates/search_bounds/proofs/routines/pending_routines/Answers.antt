use Rattle.std.proofs.Common.{◌<◌, arith, sym, ◌∙◌, ap}
use Rattle.law_future.specs.Spans.{is_pending_in}
use Rattle.kernel.specs.Machine.{picture}
use Rattle.search_bounds.proofs.SetLemmas.{one_pending}
use Rattle.search_bounds.proofs.routines.pending_routines.Goals.{then-is_pending, else-is_pending}
use Rattle.search_bounds.proofs.routines.pending_routines.Goals as goal

pub loop-number-preserved : goal.loop-number-preserved
loop-number-preserved c =
    let pends = is_pending_in (picture c.args.machine.now) in
    let n = c.loop-number.number in
    let inside : n < 64 = omega (arith, c.loop-number-test.true, c.requires.few) in
    elim c.if-is_pending.branch [
      | then-is_pending w ↦ rw w.set-is
          (one_pending pends c.loop-number.set n inside c.loop-number.invariant
          (ap pends (sym c.new.ensures) ∙ sym c.is_pending.ensures ∙ w.if-is_pending.true))
      | else-is_pending w ↦ rw w.set-is c.loop-number.invariant
    ]

use Rattle.std.proofs.Common.{Err, ◌∙◌, ap}
use Rattle.std.proofs.lemmas.Result.{err_from_is_err_and}
use Rattle.tracer.specs.WholeRuns.{IsShown, RefusesStart}
use Rattle.tracer.proofs.TraceLemmas.{shown_of, no_write_of_start}
use Rattle.tracer.proofs.WritesLemmas.{refused}
use Rattle.tracer.proofs.whole_run.write_kernel_run.Goals as goal

pub returns-in_err-kernel : goal.returns-in_err-kernel
returns-in_err-kernel g c =
    let S = c.args.system.now in
    let i = c.args.input.now in
    let p = err_from_is_err_and c.from_residual.result c.from_residual.ensures.1 in
    let h = rw (c.irqs.ensures, c.mode.ensures) at c.in_err-kernel.ensures.refusal in
    refused g.S.Sink.taken g.S.Sink.has_failed (IsShown S c.args.shown i) (RefusesStart S i.irqs i.mode) c.args.out.now _ _
    (p.1 ∙ ap Err p.2) (no_write_of_start S i.irqs i.mode _ h) h

pub returns-in_err-write_ticks : goal.returns-in_err-write_ticks
returns-in_err-write_ticks g c =
    let i = c.args.input.now in
    let p = err_from_is_err_and c.from_residual-in_err-write_ticks.result c.from_residual-in_err-write_ticks.ensures.1 in
    let begun = rw (c.irqs.ensures, c.mode.ensures) at c.in_ok-kernel.ensures.begun in
    let shown = shown_of i c.args.shown c.args.system.now c.in_ok-texts.texts _ _ c.in_ok-texts.ensures c.ticks.ensures.value begun in
    rw (p.1 ∙ ap Err p.2) ((_, shown, c.in_err-write_ticks.ensures.beginning), c.in_err-write_ticks.ensures.failed)

pub returns : goal.returns
returns g c =
    let i = c.args.input.now in
    let begun = rw (c.irqs.ensures, c.mode.ensures) at c.in_ok-kernel.ensures.begun in
    let shown = shown_of i c.args.shown c.args.system.now c.in_ok-texts.texts _ _ c.in_ok-texts.ensures c.ticks.ensures.value begun in
    ((_, shown, c.in_ok-write_ticks.ensures.written), c.in_ok-write_ticks.ensures.still)

use Rattle.std.proofs.Common.{Err, inl, inr, ◌∙◌, ap}
use Rattle.std.proofs.lemmas.Result.{err_from_is_err_and}
use Rattle.tracer.specs.WholeRuns.{IsShown, IsShownOf, RefusesStart, IsFirstRefusal}
use Rattle.tracer.proofs.TraceLemmas.{no_write_of_system}
use Rattle.tracer.proofs.WritesLemmas.{refused, as_asked}
use Rattle.tracer.proofs.whole_run.write_system.Goals as goal

pub returns-in_err-system : goal.returns-in_err-system
returns-in_err-system g c =
    let i = c.args.input.now in
    let p = err_from_is_err_and c.from_residual.result c.from_residual.ensures.1 in
    let h = rw (c.oil.ensures, c.asm.ensures) at c.in_err-system.ensures.refusal in
    refused g.S.Sink.taken g.S.Sink.has_failed (IsShownOf i c.args.shown) (IsFirstRefusal i) c.args.out.now _ _
    (p.1 ∙ ap Err p.2) (no_write_of_system i.oil i.asm _ h) (inl h)

pub returns : goal.returns
returns g c =
    let S = c.in_ok-system.system in
    let i = c.args.input.now in
    let made = rw (c.oil.ensures, c.asm.ensures) at c.in_ok-system.ensures.made in
    as_asked g.S.Sink.taken g.S.Sink.has_failed (IsShown S c.args.shown i) (RefusesStart S i.irqs i.mode)
    (IsShownOf i c.args.shown) (IsFirstRefusal i) c.args.out.now c.write_run.new.out c.write_run.result
    (λ bytes shown. (S, made, shown)) (λ fault h. inr (S, made, h)) c.write_run.ensures

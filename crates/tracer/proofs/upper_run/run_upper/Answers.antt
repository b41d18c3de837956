use Rattle.std.proofs.Common.{Err, inl, inr, ◌∙◌, ap}
use Rattle.std.proofs.lemmas.Result.{err_from_is_err_and}
use Rattle.tracer.specs.UpperRuns.{IsView, IsFirstViewRefusal}
use Rattle.tracer.specs.WholeRuns.{IsShown, RefusesStart}
use Rattle.tracer.specs.declared.shown.Shown.{Shown}
use Rattle.tracer.proofs.TraceLemmas.{view_of, no_write_of_system, no_write_of_partition}
use Rattle.tracer.proofs.WritesLemmas.{refused, as_asked}
use Rattle.tracer.proofs.upper_run.run_upper.Goals as goal

pub returns-in_err-system : goal.returns-in_err-system
returns-in_err-system g c =
    let i = c.args.input.now in
    let p = c.args.p in
    let e = err_from_is_err_and c.from_residual.result c.from_residual.ensures.1 in
    let h = rw (c.oil.ensures, c.asm.ensures) at c.in_err-system.ensures.refusal in
    refused g.S.Sink.taken g.S.Sink.has_failed (IsView i p) (IsFirstViewRefusal i p) c.args.out.now _ _
    (e.1 ∙ ap Err e.2) (no_write_of_system i.oil i.asm _ h) (inl h)

pub returns-in_err-check_upper : goal.returns-in_err-check_upper
returns-in_err-check_upper g c =
    let S = c.in_ok-system.system in
    let i = c.args.input.now in
    let p = c.args.p in
    let e = err_from_is_err_and c.from_residual-in_err-check_upper.result c.from_residual-in_err-check_upper.ensures.1 in
    let made = rw (c.oil.ensures, c.asm.ensures) at c.in_ok-system.ensures.made in
    refused g.S.Sink.taken g.S.Sink.has_failed (IsView i p) (IsFirstViewRefusal i p) c.args.out.now _ _
    (e.1 ∙ ap Err e.2) (no_write_of_partition S p _ c.in_err-check_upper.ensures.denies)
    (inr (S, made, inl c.in_err-check_upper.ensures.denies))

pub returns-then-alone : goal.returns-then-alone
returns-then-alone g c =
    let S = c.in_ok-system.system in
    let made = rw (c.oil.ensures, c.asm.ensures) at c.in_ok-system.ensures.made in
    let accepts = c.in_ok-check_upper.ensures.accepts in
    let i = c.args.input.now in
    let p = c.args.p in
    as_asked g.S.Sink.taken g.S.Sink.has_failed (IsShown S (Shown.View p) i) (RefusesStart S i.irqs i.mode)
    (IsView i p) (IsFirstViewRefusal i p) c.args.out.now c.write_alone.new.out c.write_alone.result
    (λ bytes shown. (S, made, accepts, view_of i p S bytes shown)) (λ fault h. inr (S, made, inr (accepts, h)))
    c.write_alone.ensures

pub returns : goal.returns
returns g c =
    let S = c.in_ok-system.system in
    let made = rw (c.oil.ensures, c.asm.ensures) at c.in_ok-system.ensures.made in
    let accepts = c.in_ok-check_upper.ensures.accepts in
    let i = c.args.input.now in
    let p = c.args.p in
    as_asked g.S.Sink.taken g.S.Sink.has_failed (IsShown S (Shown.View p) i) (RefusesStart S i.irqs i.mode)
    (IsView i p) (IsFirstViewRefusal i p) c.args.out.now c.write_run.new.out c.write_run.result
    (λ bytes shown. (S, made, accepts, view_of i p S bytes shown)) (λ fault h. inr (S, made, inr (accepts, h)))
    c.write_run.ensures

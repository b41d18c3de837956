use Rattle.tracer.specs.WholeRuns.{IsShown, RefusesStart}
use Rattle.tracer.specs.declared.shown.Shown.{Shown}
use Rattle.tracer.proofs.AloneLemmas.{shown_alone, refused_alone}
use Rattle.tracer.proofs.WritesLemmas.{as_asked}
use Rattle.tracer.proofs.upper_run.write_alone.Goals as goal

pub returns : goal.returns
returns g c =
    let S = c.args.system.now in
    let part = c.in_ok-part.part in
    let made = c.in_ok-part.ensures.made in
    let shown = Shown.View c.args.p in
    let i = c.args.input.now in
    as_asked g.S.Sink.taken g.S.Sink.has_failed (IsShown part shown i) (RefusesStart part i.irqs i.mode)
    (IsShown S shown i) (RefusesStart S i.irqs i.mode) c.args.out.now c.write_run.new.out c.write_run.result
    (shown_alone S c.args.p i part made c.in_ok-part.ensures.shows) (refused_alone S c.args.p i part made)
    c.write_run.ensures

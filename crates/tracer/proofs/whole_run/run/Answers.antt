use Rattle.tracer.specs.WholeRuns.{IsShownOf, IsTrace, IsFirstRefusal}
use Rattle.tracer.specs.declared.shown.Shown.{Shown}
use Rattle.tracer.proofs.TraceLemmas.{trace_of}
use Rattle.tracer.proofs.WritesLemmas.{as_asked}
use Rattle.tracer.proofs.whole_run.run.Goals as goal

pub returns : goal.returns
returns g c =
    let i = c.args.input.now in
    as_asked g.S.Sink.taken g.S.Sink.has_failed (IsShownOf i Shown.All) (IsFirstRefusal i) (IsTrace i) (IsFirstRefusal i)
    c.args.out.now c.write_system.new.out c.write_system.result
    (λ bytes h. (h.0, h.1, trace_of i h.0 bytes h.2)) (λ fault h. h) c.write_system.ensures

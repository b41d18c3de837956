use Rattle.std.proofs.Common.{Err, ap, subst, ◌∙◌}
use Rattle.std.proofs.lemmas.Result.{err_from_is_err_and}
use Rattle.view_dumps.specs.Dumps.{Dump}
use Rattle.view_runs.specs.Dumps.{IsDumpOf}
use Rattle.view_runs.proofs.vcd.write_vcd.Goals as goal

pub returns-in_err-dump_run : goal.returns-in_err-dump_run
returns-in_err-dump_run g c =
    let p = err_from_is_err_and c.from_residual-in_err-dump_run.result c.from_residual-in_err-dump_run.ensures.1 in
    let first = ap (λ (d : Dump). d.first) c.new-dump.ensures in
    let h = c.in_err-dump_run.ensures in
    let dump = subst (λ n. IsDumpOf c.in_ok-run.run' c.args.input.ticks n h.0) first h.1 in
    rw (p.1 ∙ ap Err p.2) ((h.0, (c.in_ok-run.run', c.in_ok-run.ensures.begun, dump), h.2.beginning), h.2.failed)

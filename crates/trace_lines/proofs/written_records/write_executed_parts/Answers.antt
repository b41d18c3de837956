use Rattle.std.proofs.Common.{◌∙◌}
use Rattle.osek_base.specs.Executed.{executed_record}
use Rattle.sinks.proofs.SinkLemmas.{stops, goes_on}
use Rattle.trace_lines.proofs.TickTexts.{passed_own, stopped_before, stopped_own}
use Rattle.trace_lines.proofs.written_records.write_executed_parts.Goals as goal

pub returns-in_err-write_beside : goal.returns-in_err-write_beside
returns-in_err-write_beside g c =
    let S = c.args.texts.now in
    stops g.S.Sink.taken g.S.Sink.has_failed _ _ _ c.args.out.now _ c.from_residual.result c.from_residual.ensures.1
    (stopped_before S.names c.args.tick.now (g.N.BlockerNumber.told c.args.number.now) c.args.before.now (executed_record S c.args.executed.now) c.args.behind.now _ _ _ c.in_err-write_beside.ensures.beginning)
    c.in_err-write_beside.ensures.failed

pub returns : goal.returns
returns g c =
    let S = c.args.texts.now in
    let own = executed_record S c.args.executed.now in
    goes_on g.S.Sink.taken g.S.Sink.has_failed _ _ _ _ c.args.out.now _ _ c.write_from_executed.result
    c.in_ok-write_beside.ensures.still
    (passed_own S.names c.args.tick.now (g.N.BlockerNumber.told c.args.number.now) c.args.before.now own c.args.behind.now _ _ _ _ _ _
    c.in_ok-write_beside.ensures.written)
    (stopped_own S.names c.args.tick.now (g.N.BlockerNumber.told c.args.number.now) c.args.before.now own c.args.behind.now _ _ _ _ _
    c.in_ok-write_beside.ensures.written)
    c.write_from_executed.ensures

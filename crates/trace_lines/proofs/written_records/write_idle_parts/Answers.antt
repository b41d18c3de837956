use Rattle.std.proofs.Common.{◌∙◌}
use Rattle.osek_base.specs.declared.trace_event.TraceEvent.{TraceEvent}
use Rattle.sinks.proofs.SinkLemmas.{stops, goes_on}
use Rattle.trace_lines.proofs.TickTexts.{passed, stopped_before, stopped_behind, stopped_there}
use Rattle.trace_lines.proofs.written_records.write_idle_parts.Goals as goal

pub returns-in_err-write_tick : goal.returns-in_err-write_tick
returns-in_err-write_tick g c =
    let S = c.args.texts.now in
    stops g.S.Sink.taken g.S.Sink.has_failed _ _ _ c.args.out.now _ c.from_residual.result c.from_residual.ensures.1
    (stopped_before S.names c.args.tick.now c.args.number c.args.before.now TraceEvent.Idle c.args.behind.now _ _ _ c.in_err-write_tick.ensures.beginning)
    c.in_err-write_tick.ensures.failed

pub returns-in_err-write_record : goal.returns-in_err-write_record
returns-in_err-write_record g c =
    let S = c.args.texts.now in
    stops g.S.Sink.taken g.S.Sink.has_failed _ _ _ c.args.out.now _ c.from_residual-in_err-write_record.result
    c.from_residual-in_err-write_record.ensures.1
    (stopped_there S.names c.args.tick.now c.args.number c.args.before.now TraceEvent.Idle c.args.behind.now _ _ _ _ _
    c.in_ok-write_tick.ensures.written c.in_err-write_record.ensures.beginning)
    c.in_err-write_record.ensures.failed

pub returns : goal.returns
returns g c =
    let S = c.args.texts.now in
    let own = TraceEvent.Idle in
    goes_on g.S.Sink.taken g.S.Sink.has_failed _ _ _ _ c.args.out.now _ _ c.write_tick-2.result
    (c.in_ok-write_record.ensures.still ∙ c.in_ok-write_tick.ensures.still)
    (passed S.names c.args.tick.now c.args.number c.args.before.now own c.args.behind.now _ _ _ _ _ _ _ _
    c.in_ok-write_tick.ensures.written c.in_ok-write_record.ensures.written)
    (stopped_behind S.names c.args.tick.now c.args.number c.args.before.now own c.args.behind.now _ _ _ _ _ _ _
    c.in_ok-write_tick.ensures.written c.in_ok-write_record.ensures.written)
    c.write_tick-2.ensures

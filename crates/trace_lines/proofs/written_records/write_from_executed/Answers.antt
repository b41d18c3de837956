use Rattle.osek_base.specs.Executed.{executed_record}
use Rattle.osek_base.specs.System.{instruction_at}
use Rattle.sinks.proofs.SinkLemmas.{goes_on, stops}
use Rattle.trace_lines.proofs.TickTexts.{end_stopped, ended_line, front_stopped}
use Rattle.trace_lines.proofs.written_records.write_from_executed.Goals as goal

pub returns-in_err-write_executed_front : goal.returns-in_err-write_executed_front
returns-in_err-write_executed_front g c =
    let S = c.args.texts.now in
    stops g.S.Sink.taken g.S.Sink.has_failed _ _ _ c.args.out.now _ c.from_residual.result c.from_residual.ensures.1
    (front_stopped S.names c.args.tick.now (g.N.BlockerNumber.told c.args.number.now) (executed_record S c.args.executed.now) c.args.behind.now _ _ _
    c.in_err-write_executed_front.ensures.puts.beginning)
    c.in_err-write_executed_front.ensures.puts.failed

pub returns : goal.returns
returns g c =
    let S = c.args.texts.now in
    let executed = c.args.executed.now in
    let own = executed_record S executed in
    let told = g.N.BlockerNumber.told c.args.number.now in
    goes_on g.S.Sink.taken g.S.Sink.has_failed _ _ _ _ c.args.out.now _ _ c.write_executed_end.result
    c.in_ok-write_executed_front.ensures.puts.still
    (ended_line S.names c.args.tick.now told own c.args.behind.now _ _ _ _ _ _ c.in_ok-write_executed_front.ensures.puts.written)
    (end_stopped S.names c.args.tick.now told own c.args.behind.now _ _ _ _ _ c.in_ok-write_executed_front.ensures.puts.written)
    (c.write_executed_end.ensures executed.owner executed.place (instruction_at S executed.owner executed.place) executed.outcome)

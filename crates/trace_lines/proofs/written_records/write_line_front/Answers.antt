use Rattle.sinks.proofs.SinkLemmas.{begins_longer, stops}
use Rattle.trace_lines.proofs.written_records.write_line_front.Goals as goal

pub returns-in_err-make_room-clause-puts : goal.returns-in_err-make_room-clause-puts
returns-in_err-make_room-clause-puts g c =
    stops g.S.Sink.taken g.S.Sink.has_failed _ _ _ c.args.out.now _ c.from_residual.result c.from_residual.ensures.1
    (begins_longer _ _ _ _ c.in_err-make_room.ensures.puts.beginning) c.in_err-make_room.ensures.puts.failed

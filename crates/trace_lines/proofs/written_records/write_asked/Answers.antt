use Rattle.std.proofs.Common.{subst}
use Rattle.trace_lines.specs.Lines.{tick_text}
use Rattle.sinks.specs.Sinks.{PutsBehind}
use Rattle.trace_lines.proofs.written_records.write_asked.Goals as goal

pub returns : goal.returns
returns g c =
    subst
    (λ n. PutsBehind g.S.Sink.taken g.S.Sink.has_failed c.args.out.now c.write_tick.new.out c.args.text.now c.write_tick.new.text
    (tick_text c.args.texts.now.names c.args.tick.now n c.args.records.now) c.write_tick.result)
    c.number-number.ensures c.write_tick.ensures

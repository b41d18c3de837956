use Rattle.std.proofs.Common.{subst}
use Rattle.trace_lines.specs.Lines.{event_of, same_ticks_text}
use Rattle.sinks.specs.Sinks.{PutsBehind}
use Rattle.trace_lines.specs.declared.idle_lines.IdleWord.{IdleWord}
use Rattle.tracer.proofs.written_ticks.write_idle.Goals as goal

pub returns-clause-puts : goal.returns-clause-puts
returns-clause-puts g c =
    let names = c.args.lines.now.texts.now.names in
    let w = c.write_idle_ticks in
    subst
    (λ (word : IdleWord). PutsBehind g.S.Sink.taken g.S.Sink.has_failed c.args.out.now w.new.out c.args.text.now w.new.text
    (same_ticks_text names (event_of word) c.args.lines.now.digits c.args.ticks) w.result)
    c.idle_word.ensures (w.ensures.puts names)

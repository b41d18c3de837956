use Rattle.std.proofs.Common.{ap, sym, subst, ◌∙◌}
use Rattle.trace_lines.specs.Lines.{event_of, same_ticks_text}
use Rattle.sinks.specs.Sinks.{PutsBehind}
use Rattle.trace_lines.specs.declared.idle_lines.IdleWord.{IdleWord}
use Rattle.trace_lines.proofs.IdleLemmas.{idle_same, other_same}
use Rattle.trace_lines.proofs.idle_lines.write_idle_ticks.Goals as goal

pub returns-in-Idle-clause-puts : goal.returns-in-Idle-clause-puts
returns-in-Idle-clause-puts g c names =
    let t = c.args.tick.now in
    let n = c.args.ticks in
    let w = c.write_lines in
    subst (λ text. PutsBehind g.S.Sink.taken g.S.Sink.has_failed c.args.out.now w.new.out c.args.text.now w.new.text text w.result)
    (idle_same names t n ∙ ap (λ (word : IdleWord). same_ticks_text names (event_of word) t n) (sym c.in-Idle.is))
    w.ensures.puts

pub returns-in-Other-clause-puts : goal.returns-in-Other-clause-puts
returns-in-Other-clause-puts g c names =
    let t = c.args.tick.now in
    let n = c.args.ticks in
    let w = c.write_lines-in-Other in
    subst (λ text. PutsBehind g.S.Sink.taken g.S.Sink.has_failed c.args.out.now w.new.out c.args.text.now w.new.text text w.result)
    (other_same names t n ∙ ap (λ (word : IdleWord). same_ticks_text names (event_of word) t n) (sym c.in-Other.is))
    w.ensures.puts

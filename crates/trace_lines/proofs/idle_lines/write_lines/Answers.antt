use Rattle.std.proofs.Common.{◌+◌, ◌∙◌, add-one, ap, sym, subst, arith}
use Rattle.trace_lines.specs.Lines.{lines_from}
use Rattle.sinks.specs.Sinks.{Passes}
use Rattle.sinks.proofs.SinkLemmas.{stops}
use Rattle.trace_lines.proofs.IdleLemmas.{lines_stopped, passes_line}
use Rattle.trace_lines.proofs.idle_lines.write_lines.Goals as goal

pub lines-preserved : goal.lines-preserved
lines-preserved g c =
    let v = c.lines.invariant in
    let n = c.lines.done in
    record {
      so_far =
          subst
          (λ m. Passes (g.S.Sink.taken c.args.out.now) (g.S.Sink.taken c.make_room.new.out) c.args.text.now c.push_line.new.text
          (lines_from c.args.ending.now c.args.tick.now m))
          (sym (add-one n))
          (passes_line c.args.ending.now c.args.tick.now _ _ _ _ _ _ _ n c.lines.tick v.counted v.so_far
          c.in_ok-make_room.ensures.puts.written c.push_line.ensures);
      counted = c.advance.ensures ∙ ap (λ t. t + 1) v.counted ∙ omega arith;
      within = omega (arith, c.lines-test.true);
      still = c.in_ok-make_room.ensures.puts.still ∙ v.still;
    }

pub returns-in_err-make_room-clause-puts : goal.returns-in_err-make_room-clause-puts
returns-in_err-make_room-clause-puts g c =
    let v = c.lines.invariant in
    stops g.S.Sink.taken g.S.Sink.has_failed _ _ _ c.args.out.now _ c.from_residual.result c.from_residual.ensures.1
    (lines_stopped c.args.ending.now c.args.tick.now _ _ _ _ _ c.lines.done c.args.ticks v.within v.so_far
    c.in_err-make_room.ensures.puts.beginning)
    c.in_err-make_room.ensures.puts.failed

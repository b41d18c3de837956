use Rattle.std.proofs.Common.{Ok, true, true≢false, refl, sym, ◌∙◌}
use Rattle.kernel.specs.Progress.{Progress}
use Rattle.tracer.specs.declared.shown.Shown.{Shown}
use Rattle.tracer.proofs.PassLemmas.{stopped}
use Rattle.tracer.proofs.written_ticks.pass_viewed.Goals as goal

pub returns-then-is_shut_down-clause-passes : goal.returns-then-is_shut_down-clause-passes
returns-then-is_shut_down-clause-passes g c =
    record { over = sym c.is_shut_down.ensures ∙ c.if-is_shut_down.true; same = refl; sink = refl; block = refl }

pub returns-then-is_shut_down-clause-empty : goal.returns-then-is_shut_down-clause-empty
returns-then-is_shut_down-clause-empty g c = λ none. absurd (true≢false (sym none))

pub write_viewed-requires-clause-on : goal.write_viewed-requires-clause-on
write_viewed-requires-clause-on g c = sym c.is_shut_down.ensures ∙ c.if-is_shut_down.false

pub returns-in_err-write_viewed-clause-passes : goal.returns-in_err-write_viewed-clause-passes
returns-in_err-write_viewed-clause-passes g c =
    let k : Progress = c.args.kernel.now in
    let p = c.in_err-write_viewed.ensures.passes in
    stopped g.S.Sink.taken g.S.Sink.has_failed c.args.lines.now.texts.now (Shown.View c.args.p) k c.write_viewed.new.kernel c.args.out.now
    c.write_viewed.new.out c.args.room.now.text c.write_viewed.new.room.text _ c.from_residual.result c.from_residual.ensures.1
    p.on p.next p.puts.beginning p.puts.failed

pub returns-clause-passes : goal.returns-clause-passes
returns-clause-passes g c =
    let p = c.in_ok-write_viewed.ensures.passes in
    record {
      on = p.on;
      puts = record { written = p.puts.written; beginning = tt; still = p.puts.still; failed = tt };
      next = p.next;
    }

pub returns-clause-empty : goal.returns-clause-empty
returns-clause-empty g c = λ _. c.in_ok-write_viewed.ensures.empty

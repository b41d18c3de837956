use Rattle.std.proofs.Common.{◌≡◌, refl, sym, ap, subst, ◌∙◌}
use Rattle.osek_base.specs.System.{System}
use Rattle.kernel.specs.Progress.{Progress}
use Rattle.trace_lines.specs.Lines.{event_of, same_ticks_text}
use Rattle.sinks.specs.Sinks.{Passes, PutsBehind}
use Rattle.sinks.proofs.SinkLemmas.{passes_none}
use Rattle.tracer.specs.Ticks.{idle_word, ticks_text_shown}
use Rattle.tracer.proofs.IdleTickLemmas.{idle_ticks}
use Rattle.tracer.proofs.written_ticks.pass_idle_ticks.Goals as goal

pub returns-then-idle-eq0-clause-passed : goal.returns-then-idle-eq0-clause-passed
returns-then-idle-eq0-clause-passed g c =
    let r : Progress = c.args.kernel.now in
    let V : System = c.args.lines.now.texts.now in
    let n = c.pass_idle-idle.result in
    let taken = g.S.Sink.taken in
    let none : n ≡ 0 = c.if-idle-eq0.true in
    record {
      count = n;
      puts = record {
        written =
            subst (λ m. Passes (taken c.args.out.now) (taken c.args.out.now) c.args.text.now c.args.text.now (ticks_text_shown V c.args.lines.now.shown r.system r.mode r.arrivals r.ticks m))
            (sym none) (passes_none (taken c.args.out.now) c.args.text.now);
        beginning = tt;
        still = refl;
        failed = tt;
      };
      going = c.pass_idle-idle.ensures.going;
      next = c.pass_idle-idle.ensures.next;
    }

pub returns-clause-passed : goal.returns-clause-passed
returns-clause-passed g c =
    let r : Progress = c.args.kernel.now in
    let V : System = c.args.lines.now.texts.now in
    let n = c.pass_idle-idle.result in
    let w = c.write_idle in
    record {
      count = n;
      puts =
          subst (λ text. PutsBehind g.S.Sink.taken g.S.Sink.has_failed c.args.out.now w.new.out c.args.text.now w.new.text text w.result)
          (ap (λ t. same_ticks_text V.names (event_of (idle_word c.args.lines.now.shown)) t n) c.requires.counted
          ∙ idle_ticks V r.system r.mode r.arrivals c.args.lines.now.shown r.ticks n c.pass_idle-idle.ensures.records)
          w.ensures.puts;
      going = c.pass_idle-idle.ensures.going;
      next = c.pass_idle-idle.ensures.next;
    }

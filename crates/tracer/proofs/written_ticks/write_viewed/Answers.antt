use Rattle.std.proofs.Common.{◌++◌, List, ℕ, sym, ap, subst, ◌∙◌}
use Rattle.std.specs.List.{AllByRecursion}
use Rattle.osek_base.specs.System.{System}
use Rattle.osek_base.specs.View.{view_records}
use Rattle.kernel.specs.Progress.{Progress}
use Rattle.sinks.specs.Sinks.{AppendsSome, Passes}
use Rattle.sinks.proofs.SinkLemmas.{stops}
use Rattle.trace_lines.specs.Programs.{IsOfProgram}
use Rattle.tracer.specs.declared.shown.Shown.{Shown}
use Rattle.tracer.proofs.PassLemmas.{alive}
use Rattle.tracer.proofs.ProgramRecords.{shown_of_program}
use Rattle.tracer.proofs.TickLines.{view_text_of}
use Rattle.tracer.proofs.written_ticks.write_viewed.Goals as goal

pub tick_into-requires : goal.tick_into-requires
tick_into-requires g c = alive c.args.kernel.now c.requires.ready.few c.requires.on

pub write_tick-requires : goal.write_tick-requires
write_tick-requires g c =
    let k : Progress = c.args.kernel.now in
    let V = c.system.result.now in
    record {
      listed =
          subst (λ (S : System). AllByRecursion (IsOfProgram S) c.upper_view_into.new.view) c.requires.ready.system
          (subst (AllByRecursion (IsOfProgram k.system)) (sym (c.upper_view_into.ensures ∙ ap (view_records V c.args.p) c.tick_into.ensures.records))
          (shown_of_program k.system V (Shown.View c.args.p) k.mode k.arrivals k.ticks));
    }

pub returns-in_err-write_tick-clause-passes : goal.returns-in_err-write_tick-clause-passes
returns-in_err-write_tick-clause-passes g c =
    let k : Progress = c.args.kernel.now in
    let taken = g.S.Sink.taken in
    let text = view_text_of c.args.lines.now.texts.now c.system.result.now c.args.p c.args.lines.now.digits k c.tick_into.new.record_of_tick c.upper_view_into.new.view
    c.system.ensures c.requires.ready.counted c.tick_into.ensures.records c.upper_view_into.ensures in
    record {
      on = c.requires.on;
      puts =
          stops taken g.S.Sink.has_failed _ _ _ c.args.out.now _ c.from_residual.result c.from_residual.ensures.1
          (subst (λ (t : List ℕ). AppendsSome (taken c.args.out.now) (taken c.write_tick.new.out) (c.args.room.now.text ++ t)) text
          c.in_err-write_tick.ensures.beginning)
          c.in_err-write_tick.ensures.failed;
      next = c.tick_into.ensures.next;
    }

pub returns-clause-passes : goal.returns-clause-passes
returns-clause-passes g c =
    let k : Progress = c.args.kernel.now in
    let taken = g.S.Sink.taken in
    let text = view_text_of c.args.lines.now.texts.now c.system.result.now c.args.p c.args.lines.now.digits k c.tick_into.new.record_of_tick c.upper_view_into.new.view
    c.system.ensures c.requires.ready.counted c.tick_into.ensures.records c.upper_view_into.ensures in
    record {
      on = c.requires.on;
      puts = record {
        written =
            subst (Passes (taken c.args.out.now) (taken c.write_tick.new.out) c.args.room.now.text c.write_tick.new.text) text
            c.in_ok-write_tick.ensures.written;
        beginning = tt;
        still = c.in_ok-write_tick.ensures.still;
        failed = tt;
      };
      next = c.tick_into.ensures.next;
    }

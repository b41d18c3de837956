use Rattle.std.proofs.Common.{◌≡◌, ◌≤◌, ◌-◌, []}
use Rattle.osek_base.specs.Trace.{run}
use Rattle.tracer.specs.Shown.{numbers_shown, text_shown}
use Rattle.tracer.specs.Ticks.{SameLines}
use Rattle.sinks.specs.Sinks.{Passes}
use Rattle.tracer.proofs.written_ticks.write_ticks.Given as goal

abbrev pub invariant-ticks : goal.invariant-ticks
invariant-ticks g l =
    record {
      so_far : Passes (g.S.Sink.taken l.initial.out) (g.S.Sink.taken l.out) [] l.room.text (text_shown l.texts l.initial.lines.shown (numbers_shown l.initial.lines.shown l.initial.kernel.system l.initial.kernel.mode l.initial.kernel.arrivals) (run l.initial.kernel.system l.initial.kernel.mode l.initial.kernel.arrivals l.kernel.ticks));
      at : l.kernel ≡ record l.initial.kernel { ticks = l.kernel.ticks };
      within : l.kernel.ticks ≤ l.ticks;
      counted : l.lines.digits ≡ l.kernel.ticks;
      kept : SameLines l.texts l.lines.texts.now l.initial.lines.shown l.lines.shown;
      empty : l.room.behind ≡ [];
      still : g.S.Sink.has_failed l.out ≡ g.S.Sink.has_failed l.initial.out;
    }

abbrev pub decreases-ticks : goal.decreases-ticks
decreases-ticks g l = l.ticks - l.kernel.ticks

use Rattle.std.proofs.Common.{◌≡◌, ◌+◌, ◌-◌, ◌≤◌}
use Rattle.trace_lines.specs.Lines.{lines_from}
use Rattle.sinks.specs.Sinks.{Passes}
use Rattle.trace_lines.proofs.idle_lines.write_lines.Given as goal

abbrev pub invariant-lines : goal.invariant-lines
invariant-lines g l =
    record {
      so_far : Passes (g.S.Sink.taken l.initial.out) (g.S.Sink.taken l.out) l.initial.text l.text (lines_from l.ending l.initial.tick l.done);
      counted : l.tick ≡ l.initial.tick + l.done;
      within : l.done ≤ l.ticks;
      still : g.S.Sink.has_failed l.out ≡ g.S.Sink.has_failed l.initial.out;
    }

abbrev pub decreases-lines : goal.decreases-lines
decreases-lines g l = l.ticks - l.done

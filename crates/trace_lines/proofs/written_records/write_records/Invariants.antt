use Rattle.std.proofs.Common.{◌≡◌, take}
use Rattle.trace_lines.specs.Lines.{tick_text}
use Rattle.sinks.specs.Sinks.{Passes}
use Rattle.trace_lines.proofs.written_records.write_records.Given as goal

abbrev pub invariant-records : goal.invariant-records
invariant-records g l =
    record {
      so_far : Passes (g.S.Sink.taken l.initial.out) (g.S.Sink.taken l.out) l.initial.text l.text (tick_text l.texts.names l.tick l.number (take l.entry-index l.entries));
      still : g.S.Sink.has_failed l.out ≡ g.S.Sink.has_failed l.initial.out;
    }

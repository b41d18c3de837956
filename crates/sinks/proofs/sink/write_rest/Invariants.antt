use Rattle.std.proofs.Common.{length, ◌-◌, ◌≡◌, ◌≤◌, take}
use Rattle.std.specs.Io.KnownBytes.{Appends}
use Rattle.sinks.proofs.sink.write_rest.Given as goal

abbrev pub invariant-writes : goal.invariant-writes
invariant-writes g l =
    record {
      within : l.done ≤ length l.bytes;
      so_far : Appends (g.S.Sink.taken l.initial.out) (g.S.Sink.taken l.out) (take l.done l.bytes);
      still : g.S.Sink.has_failed l.out ≡ g.S.Sink.has_failed l.initial.out;
    }

abbrev pub decreases-writes : goal.decreases-writes
decreases-writes g l = length l.bytes - l.done

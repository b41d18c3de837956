use Rattle.std.proofs.Common.{◌≡◌, true, take}
use Rattle.arrival_reader.specs.ArrivalText.{lacks}
use Rattle.arrival_reader.proofs.arrival_line.place_of.Given as goal

abbrev pub invariant-bytes : goal.invariant-bytes
invariant-bytes l = lacks l.byte (take l.i l.text) ≡ true

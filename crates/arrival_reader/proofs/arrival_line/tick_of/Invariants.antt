use Rattle.std.proofs.Common.{◌≡◌, ◌≤◌, min, drop}
use Rattle.osek_base.specs.Words.{number_from}
use Rattle.arrival_reader.proofs.arrival_line.tick_of.Given as goal

abbrev pub invariant-digits : goal.invariant-digits
invariant-digits l =
    record {
      small : l.tick ≤ 1000000;
      whole : min (number_from 10 l.tick (drop l.digit-index l.digits)) 1000000 ≡ min (number_from 10 0 l.digits) 1000000;
    }

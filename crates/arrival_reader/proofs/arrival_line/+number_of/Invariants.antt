-- The rest of the names is shorter.
use Rattle.std.proofs.Common.{length}
use Rattle.arrival_reader.proofs.arrival_line.+number_of.Given as goal

abbrev pub decreases-number_of : goal.decreases-number_of
decreases-number_of l = length l.names.now

use Rattle.std.proofs.Common.{length}
use Rattle.view_timelines.proofs.held.+held_bits.Given as goal

abbrev pub decreases-held_bits : goal.decreases-held_bits
decreases-held_bits l = length l.holders.now

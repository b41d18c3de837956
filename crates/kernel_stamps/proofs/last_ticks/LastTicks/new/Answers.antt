use Rattle.std.proofs.Common.{arith}
use Rattle.kernel_stamps.proofs.LastLemmas.{zeros}
use Rattle.kernel_stamps.proofs.last_ticks.LastTicks.new.Goals as goal

pub invariant_of-result : goal.invariant_of-result
invariant_of-result c = record {
  low = omega arith;
  greatest = λ l. zeros 64 l;
  below = λ l inside. zeros 64 l;
}

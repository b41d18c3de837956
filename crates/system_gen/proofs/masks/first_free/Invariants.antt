use Rattle.std.proofs.Common.{◌≡◌, drop}
use Rattle.system_gen.specs.Masks.{first_free}
use Rattle.system_gen.proofs.masks.first_free.Given as goal

abbrev pub invariant-loop-bit : goal.invariant-loop-bit
invariant-loop-bit l = first_free l.taken (drop l.bit-index l.bits) ≡ first_free l.taken l.bits

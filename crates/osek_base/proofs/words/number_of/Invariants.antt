-- What is left of the digits completes the number.
use Rattle.std.proofs.Common.{drop}
use Rattle.osek_base.proofs.NumberLemmas.{GoesOn}
use Rattle.osek_base.proofs.words.number_of.Given as goal

abbrev pub invariant-loop-byte : goal.invariant-loop-byte
invariant-loop-byte l = GoesOn l.radix l.digits l.number (drop l.byte-index l.digits)

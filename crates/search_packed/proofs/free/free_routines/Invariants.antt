use Rattle.search_packed.specs.Unpacked.{unpacked}
use Rattle.search_packed.proofs.FreeLemmas.{AreFreeBy, IsLeft}
use Rattle.search_packed.proofs.free.free_routines.Given as goal

abbrev pub invariant-loop-number : goal.invariant-loop-number
invariant-loop-number l =
    AreFreeBy l.rules (unpacked l.bytes).debts l.count l.number l.free
    × IsLeft (unpacked l.bytes).debts l.told l.number l.rest

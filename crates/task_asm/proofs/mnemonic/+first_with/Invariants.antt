-- The rest of the mnemonics is shorter.
use Rattle.std.proofs.Common.{length}
use Rattle.task_asm.proofs.mnemonic.+first_with.Given as goal

abbrev pub decreases-first_with : goal.decreases-first_with
decreases-first_with l = length l.mnemonics.now

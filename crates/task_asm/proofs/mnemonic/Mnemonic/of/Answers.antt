use Rattle.task_asm.specs.Mnemonics.{mnemonic_of}
use Rattle.task_asm.proofs.mnemonic.Mnemonic.of.Goals as goal

pub returns : goal.returns
unfolding mnemonic_of
returns c = c.first_with.ensures

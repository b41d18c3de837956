use Rattle.std.proofs.Common.{arith}
use Rattle.machine.proofs.WindowLemmas.{read_zeros, word_zeros}
use Rattle.machine.specs.declared.windows.TheConstants.{ALL_WORDS}
use Rattle.machine.proofs.windows.Windows.new.Goals as goal

pub invariant_of-result : goal.invariant_of-result
invariant_of-result c = (omega arith, λ k l. read_zeros ALL_WORDS k)

pub returns : goal.returns
returns c = λ o i. word_zeros ALL_WORDS o i

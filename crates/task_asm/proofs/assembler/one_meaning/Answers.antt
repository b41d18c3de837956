use Rattle.task_asm.proofs.OneMeaning.{one_list, no_fault, one_fault}
use Rattle.task_asm.proofs.assembler.one_meaning.Goals as goal

pub returns-clause-programs : goal.returns-clause-programs
returns-clause-programs c = λ text ps qs p q. one_list text ps qs p q

pub returns-clause-faultless : goal.returns-clause-faultless
returns-clause-faultless c = λ text ps e p h. no_fault text ps e p h

pub returns-clause-fault : goal.returns-clause-fault
returns-clause-fault c = λ text e f p q er fr. one_fault text e f p q er fr

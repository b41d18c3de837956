use Rattle.std.proofs.Common.{Some, sym, ap, ◌∙◌}
use Rattle.task_asm.specs.Mnemonics.{mnemonic_of}
use Rattle.task_asm.proofs.MnemonicLemmas.{plain_back, service_back, control_back}
use Rattle.task_asm.proofs.mnemonic.Mnemonic.word.Goals as goal

pub returns-in-Plain-clause-back : goal.returns-in-Plain-clause-back
returns-in-Plain-clause-back c = ap mnemonic_of c.word.ensures.word ∙ plain_back c.in-Plain.plain ∙ ap Some (sym c.in-Plain.is)

pub returns-in-Service-clause-back : goal.returns-in-Service-clause-back
returns-in-Service-clause-back c =
    ap mnemonic_of c.word-in-Service.ensures.word ∙ service_back c.in-Service.service ∙ ap Some (sym c.in-Service.is)

pub returns-in-Control-clause-back : goal.returns-in-Control-clause-back
returns-in-Control-clause-back c =
    ap mnemonic_of c.word-in-Control.ensures.word ∙ control_back c.in-Control.control ∙ ap Some (sym c.in-Control.is)

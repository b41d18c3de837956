-- The modelled processor and OSEK/VDX OS: system services. The mnemonic that a word is.
use Rattle.std.specs.Prelude.{ℕ, List, [], ◌∷◌, Option, Some, None, if◌then◌else◌, bytes_eq}
use Rattle.osek_base.specs.declared.instr.Plain.{Plain}
use Rattle.osek_base.specs.declared.instr.Service.{Service}
use Rattle.osek_base.specs.declared.instr.Control.{Control}
use Rattle.osek_base.specs.Mnemonics.{plain_word, service_word, control_word}
use Rattle.task_asm.specs.declared.mnemonic.Mnemonic.{Mnemonic}
use Rattle.task_asm.specs.declared.mnemonic.TheConstants.{MNEMONICS}

-- the first that is there
abbrev pub or_else : {X : Type 0} → Option X → Option X → Option X
or_else (Some x) other = Some x
or_else None other = other

-- instructions without their operands
abbrev pub PlainMnemonic : Type 0
PlainMnemonic = Plain (Unit {0}) (Unit {0}) (Unit {0})

abbrev pub ServiceMnemonic : Type 0
ServiceMnemonic = Service (Unit {0}) (Unit {0}) (Unit {0}) (Unit {0}) (Unit {0})

abbrev pub ControlMnemonic : Type 0
ControlMnemonic = Control (Unit {0})

abbrev pub mnemonic_word : Mnemonic → List ℕ
mnemonic_word (Mnemonic.Plain m) = plain_word m
mnemonic_word (Mnemonic.Service m) = service_word m
mnemonic_word (Mnemonic.Control m) = control_word m

-- the first of these mnemonics with that word
abbrev pub mnemonic_in : List Mnemonic → List ℕ → Option Mnemonic
mnemonic_in [] w = None
mnemonic_in (m ∷ ms) w = if bytes_eq (mnemonic_word m) w then Some m else mnemonic_in ms w

-- the mnemonic with that word
unfoldable pub mnemonic_of : List ℕ → Option Mnemonic
mnemonic_of w = mnemonic_in MNEMONICS w

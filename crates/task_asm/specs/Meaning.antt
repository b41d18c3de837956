-- Program texts: the programs of what stands in a text, and its first fault.
use Rattle.std.specs.Prelude.{◌≡◌, ℕ, ◌-◌, List, [], ◌∷◌, Some, None, if◌then◌else◌, nat_lt, unwrap_or, ◌⊎◌}
use Rattle.osek_base.specs.declared.limits.TheConstants.{MAX_INSTRUCTIONS}
use Rattle.osek_base.specs.declared.instr.Plain.{Plain}
use Rattle.osek_base.specs.Tokens.{Lexes}
use Rattle.task_asm.specs.declared.program.NamedInstr.{NamedInstr}
use Rattle.task_asm.specs.declared.fault.AsmFault.{AsmFault}
use Rattle.task_asm.specs.Tokens.{IsPiece, IsTokenFault}
use Rattle.task_asm.specs.Programs.{Program}
use Rattle.task_asm.specs.Lines.{Tokens, Written, Ready, Jump, JumpIf, Label}
use Rattle.task_asm.specs.Statements.{Statement, Item, Reads}
use Rattle.task_asm.specs.Labels.{place_in}
use Rattle.task_asm.specs.Order.{IsFirstFault}
use Rattle.task_asm.specs.Faults.{Stands}

-- ---- programs

-- a program has 1,024 places. A label behind them all is a fault, so that the bound plays no part in programs without fault
abbrev pub within_program : ℕ → ℕ
within_program n = if nat_lt n MAX_INSTRUCTIONS then n else MAX_INSTRUCTIONS - 1

-- the place that a label names in a program with these statements
abbrev pub target : List Statement → Label → ℕ
target program l = within_program (unwrap_or (place_in program l.word) 0)

abbrev pub target_of : List Statement → Written → ℕ
target_of program (Ready i) = 0
target_of program (Jump l) = target program l
target_of program (JumpIf test a b l) = target program l

-- an instruction whose label names that place
abbrev pub finished : ℕ → Written → NamedInstr
finished to (Ready i) = i
finished to (Jump l) = NamedInstr.Plain (Plain.Jmp to)
finished to (JumpIf test a b l) = NamedInstr.Plain (Plain.JumpIf test a b to)

-- the instructions up to the next directive, of a program with these statements
abbrev pub instructions : List Statement → List Statement → List NamedInstr
instructions program [] = []
instructions program (x ∷ es) = elim x.item [
  | Item.Program kind o ↦ []
  | Item.Instruction o ↦ elim o [ Some w ↦ finished (target_of program w) w ∷ instructions program es | None ↦ instructions program es ]
  | _ ↦ instructions program es
]

-- each directive begins a program
abbrev pub programs_of : List Statement → List Program
programs_of [] = []
programs_of (x ∷ es) = elim x.item [
  | Item.Program kind o ↦ elim o [
    | Some t ↦ record { kind = kind; name = t.name; instructions = instructions es es } ∷ programs_of es
    | None ↦ programs_of es
  ]
  | _ ↦ programs_of es
]

-- ---- program texts

-- the text's tokens, and what they say
pub record Says (text : List ℕ) (es : List Statement) : Type 0 where
  pub tokens : Tokens
  pub lexes : Lexes IsPiece text 0 tokens
  pub reads : Reads tokens es

-- a text without fault, and its programs
pub record IsProgramText (text : List ℕ) (programs : List Program) : Type 0 where
  pub statements : List Statement
  pub says : Says text statements
  pub faultless : (e : AsmFault) → ¬ Stands statements e
  pub are : programs ≡ programs_of statements

-- the first of the faults that stand in a text that has tokens
pub record HasStatementFault (text : List ℕ) (e : AsmFault) : Type 0 where
  pub statements : List Statement
  pub says : Says text statements
  pub first : IsFirstFault (Stands statements) e

-- the first fault of a text: of its tokens, else of its statements. Of a want of memory nothing is said
abbrev pub HasFault : List ℕ → AsmFault → Type 0
HasFault text e = IsTokenFault text e ⊎ HasStatementFault text e

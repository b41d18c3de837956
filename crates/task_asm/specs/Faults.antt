-- Program texts: the faults that stand in what a text says.
use Rattle.std.specs.Prelude.{◌≡◌, ℕ, true, false, List, ◌∷◌, ◌++◌, Option, Some, None}
use Rattle.osek_base.specs.declared.limits.TheConstants.{MAX_INSTRUCTIONS}
use Rattle.task_asm.specs.declared.fault.AsmFault.{AsmFault}
use Rattle.task_asm.specs.declared.fault.AsmFault.TheVariants as fault
use Rattle.task_asm.specs.Lines.{Written, Ready, Jump, JumpIf}
use Rattle.task_asm.specs.Statements.{Statement, Item}
use Rattle.task_asm.specs.Labels.{place_in, has_instruction, defines, instruction_count, has_program, open_after}

-- no label, directive or mnemonic, or a label or a mnemonic where no program is open
abbrev pub IsOutOfPlace : Item → Option (List Statement) → Type 0
IsOutOfPlace (Item.Label w) own = own ≡ None
IsOutOfPlace (Item.Instruction o) own = own ≡ None
IsOutOfPlace (Item.Program kind o) own = ⊥
IsOutOfPlace Item.Unknown own = Unit {0}

-- a line that doesn't go on with just its operands
abbrev pub LacksOperands : Item → Type 0
LacksOperands (Item.Label w) = ⊥
LacksOperands (Item.Instruction o) = o ≡ None
LacksOperands (Item.Program kind o) = o ≡ None
LacksOperands Item.Unknown = ⊥

-- at p a label stands as an operand that the program with these statements doesn't define
abbrev pub NamesUnknown : Written → List Statement → ℕ → Type 0
NamesUnknown (Ready i) program p = ⊥
NamesUnknown (Jump l) program p = (p ≡ l.place) × (place_in program l.word ≡ None)
NamesUnknown (JumpIf test a b l) program p = (p ≡ l.place) × (place_in program l.word ≡ None)

-- at p stands such a label, or one that no instruction of its program follows
abbrev pub IsUnknownLabel : Item → Option (List Statement) → ℕ → Statement → List Statement → ℕ → Type 0
IsUnknownLabel (Item.Label w) own place x after p = (p ≡ place) × (has_instruction after ≡ false)
IsUnknownLabel (Item.Instruction (Some w)) (Some own) place x after p = NamesUnknown w (own ++ x ∷ after) p
IsUnknownLabel (Item.Instruction (Some w)) None place x after p = ⊥
IsUnknownLabel (Item.Instruction None) own place x after p = ⊥
IsUnknownLabel (Item.Program kind o) own place x after p = ⊥
IsUnknownLabel Item.Unknown own place x after p = ⊥

-- at p stands a label's second definition in its program, or the name of a second program of a kind
abbrev pub IsSecond : Item → List Statement → Option (List Statement) → ℕ → ℕ → Type 0
IsSecond (Item.Label w) before (Some own) place p = (p ≡ place) × (defines own w ≡ true)
IsSecond (Item.Label w) before None place p = ⊥
IsSecond (Item.Instruction o) before own place p = ⊥
IsSecond (Item.Program kind (Some t)) before own place p = (p ≡ t.place) × (has_program before kind t.name ≡ true)
IsSecond (Item.Program kind None) before own place p = ⊥
IsSecond Item.Unknown before own place p = ⊥

-- instruction 1,025 of its program
abbrev pub IsOneTooMany : Item → Option (List Statement) → Type 0
IsOneTooMany (Item.Label w) own = ⊥
IsOneTooMany (Item.Instruction o) (Some own) = instruction_count own ≡ MAX_INSTRUCTIONS
IsOneTooMany (Item.Instruction o) None = ⊥
IsOneTooMany (Item.Program kind o) own = ⊥
IsOneTooMany Item.Unknown own = ⊥

-- the fault stands at an statement, with these statements before it, of which those of its program if one is open, and these after it
abbrev pub StandsAt : List Statement → Option (List Statement) → Statement → List Statement → AsmFault → Type 0
StandsAt before own x after (fault.Token p) = ⊥
StandsAt before own x after (fault.UnknownMnemonic p) = (p ≡ x.place) × IsOutOfPlace x.item own
StandsAt before own x after (fault.Operand p) = (p ≡ x.place) × LacksOperands x.item
StandsAt before own x after (fault.UnknownLabel p) = IsUnknownLabel x.item own x.place x after p
StandsAt before own x after (fault.Twice p) = IsSecond x.item before own x.place p
StandsAt before own x after (fault.TooLong p) = (p ≡ x.place) × IsOneTooMany x.item own
StandsAt before own x after fault.Memory = ⊥

-- the fault stands in the statements
pub record Stands (es : List Statement) (e : AsmFault) : Type 0 where
  pub before : List Statement
  pub statement : Statement
  pub after : List Statement
  pub whole : es ≡ before ++ statement ∷ after
  pub stands : StandsAt before (open_after None before) statement after e

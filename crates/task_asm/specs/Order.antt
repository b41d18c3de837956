-- Which fault of a program text is answered where there are several.
use Rattle.std.specs.Prelude.{ℕ}
use Rattle.osek_base.specs.FirstFault as base
use Rattle.task_asm.specs.declared.fault.AsmFault.{AsmFault}
use Rattle.task_asm.specs.declared.fault.AsmFault.TheVariants as fault

abbrev pub place_of : AsmFault → ℕ
place_of fault.Memory = 0
place_of (fault.Token p) = p
place_of (fault.UnknownMnemonic p) = p
place_of (fault.Operand p) = p
place_of (fault.UnknownLabel p) = p
place_of (fault.Twice p) = p
place_of (fault.TooLong p) = p

abbrev pub number_of : AsmFault → ℕ
number_of fault.Memory = 0
number_of (fault.Token p) = 1
number_of (fault.UnknownMnemonic p) = 2
number_of (fault.Operand p) = 3
number_of (fault.UnknownLabel p) = 4
number_of (fault.Twice p) = 5
number_of (fault.TooLong p) = 6

abbrev pub rank : base.Rank AsmFault
rank = record { place = place_of; number = number_of }

abbrev pub IsNoLater : AsmFault → AsmFault → Type 0
IsNoLater e g = base.IsNoLater rank e g

-- of the faults that stand, one that is no later than any
abbrev pub IsFirstFault : (AsmFault → Type 0) → AsmFault → Type 0
IsFirstFault Stands e = base.IsFirst rank Stands e

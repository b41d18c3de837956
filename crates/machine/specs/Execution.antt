-- The modelled processor. Where an instruction may be executed.
use Rattle.std.specs.Prelude.{◌+◌, ◌<◌}
use Rattle.osek_base.specs.declared.instr.Plain.{Plain}
use Rattle.osek_base.specs.Types.{PlainInstr}
use Rattle.osek_base.specs.declared.limits.TheConstants.{MAX_INSTRUCTIONS}
use Rattle.osek_base.specs.Instruction.{Context}

-- a jump goes to its own place, and behind any other instruction there is one more
abbrev pub HasNext : PlainInstr → Context → Type 0
HasNext (Plain.Jmp to) c = Unit {0}
HasNext _ c = c.place + 1 < MAX_INSTRUCTIONS

-- The modelled processor: operands. What the types of an instruction keep: registers exist, a number has 32 bits, a union is of one event at least.
use Rattle.std.specs.Prelude.{ℕ, Bool, true, not, ◌&&◌, List}
use Rattle.std.specs.List.{list_all}
use Rattle.osek_base.specs.declared.instr.Service.{Service}
use Rattle.osek_base.specs.declared.instr.Plain.{Plain}
use Rattle.osek_base.specs.Types.{PlainInstr}
use Rattle.osek_base.specs.declared.instr.Control.{Control}
use Rattle.osek_base.specs.Lists.{is_empty}
use Rattle.osek_base.specs.Proper.{is_register, is_word}
use Rattle.task_asm.specs.Named.{NamedService}
use Rattle.task_asm.specs.declared.program.NamedInstr.{NamedInstr}
use Rattle.task_asm.specs.Programs.{Program}

abbrev pub is_typed_plain : PlainInstr → Bool
is_typed_plain Plain.Nop = true
is_typed_plain (Plain.Li d n) = is_register d && is_word n
is_typed_plain (Plain.Mov d a) = is_register d && is_register a
is_typed_plain (Plain.Compute operation d a b) = is_register d && is_register a && is_register b
is_typed_plain (Plain.Ld d a) = is_register d && is_register a
is_typed_plain (Plain.St a b) = is_register a && is_register b
is_typed_plain (Plain.Jmp to) = true
is_typed_plain (Plain.JumpIf test a b to) = is_register a && is_register b

abbrev pub is_typed_service : NamedService → Bool
is_typed_service (Service.SetEvent task events) = not (is_empty events)
is_typed_service (Service.ClearEvent events) = not (is_empty events)
is_typed_service (Service.WaitEvent events) = not (is_empty events)
is_typed_service (Service.LoadShared resource index) = is_register index
is_typed_service (Service.StoreShared resource index word) = is_register index && is_register word
is_typed_service (Service.SetRelAlarm alarm increment cycle) = is_register increment && is_register cycle
is_typed_service (Service.SetAbsAlarm alarm start cycle) = is_register start && is_register cycle
is_typed_service _ = true

abbrev pub is_typed_control : Control ℕ → Bool
is_typed_control (Control.ShutdownOs n) = is_word n
is_typed_control _ = true

abbrev pub is_typed : NamedInstr → Bool
is_typed (NamedInstr.Plain plain) = is_typed_plain plain
is_typed (NamedInstr.Service service) = is_typed_service service
is_typed (NamedInstr.Control control) = is_typed_control control

-- of all programs each instruction
abbrev pub are_typed : List Program → Bool
are_typed programs = list_all (λ p. list_all is_typed p.instructions) programs

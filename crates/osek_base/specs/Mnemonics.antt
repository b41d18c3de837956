-- The mnemonics: the word that an instruction begins with, whatever its operands are.
use Rattle.std.specs.Prelude.{ℕ, List, codes}
use Rattle.osek_base.specs.declared.instr.Operation.{Operation}
use Rattle.osek_base.specs.declared.instr.Comparison.{Comparison}
use Rattle.osek_base.specs.declared.instr.Plain.{Plain}
use Rattle.osek_base.specs.declared.instr.Service.{Service}
use Rattle.osek_base.specs.declared.instr.Control.{Control}

abbrev pub operation_word : Operation → List ℕ
operation_word Operation.Add = codes "ADD"
operation_word Operation.Sub = codes "SUB"
operation_word Operation.Mul = codes "MUL"
operation_word Operation.And = codes "AND"
operation_word Operation.Or = codes "OR"
operation_word Operation.Xor = codes "XOR"

abbrev pub comparison_word : Comparison → List ℕ
comparison_word Comparison.Equal = codes "JEQ"
comparison_word Comparison.NotEqual = codes "JNE"
comparison_word Comparison.Less = codes "JLT"

abbrev pub plain_word : {R N P : Type 0} → Plain R N P → List ℕ
plain_word Plain.Nop = codes "NOP"
plain_word (Plain.Li d n) = codes "LI"
plain_word (Plain.Mov d a) = codes "MOV"
plain_word (Plain.Compute operation d a b) = operation_word operation
plain_word (Plain.Ld d a) = codes "LD"
plain_word (Plain.St a b) = codes "ST"
plain_word (Plain.Jmp to) = codes "JMP"
plain_word (Plain.JumpIf test a b to) = comparison_word test

-- the services with a status
abbrev pub service_word : {V T R A E : Type 0} → Service V T R A E → List ℕ
service_word (Service.ActivateTask t) = codes "ACT"
service_word Service.TerminateTask = codes "TERM"
service_word (Service.ChainTask t) = codes "CHAIN"
service_word Service.Schedule = codes "SCHED"
service_word Service.GetTaskId = codes "GTID"
service_word (Service.GetTaskState t) = codes "GTST"
service_word (Service.GetResource r) = codes "GETR"
service_word (Service.ReleaseResource r) = codes "RELR"
service_word (Service.LoadShared r x) = codes "LDR"
service_word (Service.StoreShared r x y) = codes "STR"
service_word (Service.SetEvent t m) = codes "SETE"
service_word (Service.ClearEvent m) = codes "CLRE"
service_word (Service.GetEvent t) = codes "GETE"
service_word (Service.WaitEvent m) = codes "WAIT"
service_word (Service.SetRelAlarm a x y) = codes "SREL"
service_word (Service.SetAbsAlarm a x y) = codes "SABS"
service_word (Service.CancelAlarm a) = codes "CANA"
service_word (Service.GetAlarm a) = codes "GALM"
service_word (Service.GetAlarmBase a) = codes "GBAS"

-- the services without a status
abbrev pub control_word : {N : Type 0} → Control N → List ℕ
control_word Control.DisableAllInterrupts = codes "DAI"
control_word Control.EnableAllInterrupts = codes "EAI"
control_word Control.SuspendAllInterrupts = codes "SAI"
control_word Control.ResumeAllInterrupts = codes "RAI"
control_word Control.SuspendOsInterrupts = codes "SOI"
control_word Control.ResumeOsInterrupts = codes "ROI"
control_word (Control.ShutdownOs n) = codes "SHUT"
control_word Control.ReturnFromInterrupt = codes "RETI"

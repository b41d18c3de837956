-- Each mnemonic is the one that its word finds.
use Rattle.std.proofs.Common.{◌≡◌, Some, refl}
use Rattle.osek_base.specs.declared.instr.Operation.{Operation}
use Rattle.osek_base.specs.declared.instr.Comparison.{Comparison}
use Rattle.osek_base.specs.declared.instr.Plain.{Plain}
use Rattle.osek_base.specs.declared.instr.Service.{Service}
use Rattle.osek_base.specs.declared.instr.Control.{Control}
use Rattle.osek_base.specs.Mnemonics.{plain_word, service_word, control_word}
use Rattle.task_asm.specs.declared.mnemonic.Mnemonic.{Mnemonic}
use Rattle.task_asm.specs.Mnemonics.{PlainMnemonic, ServiceMnemonic, ControlMnemonic, mnemonic_of}

pub plain_back : (m : PlainMnemonic) → mnemonic_of (plain_word m) ≡ Some (Mnemonic.Plain m)
unfolding mnemonic_of
plain_back Plain.Nop = refl
plain_back (Plain.Li d n) = refl
plain_back (Plain.Mov d a) = refl
plain_back (Plain.Compute Operation.Add d a b) = refl
plain_back (Plain.Compute Operation.Sub d a b) = refl
plain_back (Plain.Compute Operation.Mul d a b) = refl
plain_back (Plain.Compute Operation.And d a b) = refl
plain_back (Plain.Compute Operation.Or d a b) = refl
plain_back (Plain.Compute Operation.Xor d a b) = refl
plain_back (Plain.Ld d a) = refl
plain_back (Plain.St a b) = refl
plain_back (Plain.Jmp to) = refl
plain_back (Plain.JumpIf Comparison.Equal a b to) = refl
plain_back (Plain.JumpIf Comparison.NotEqual a b to) = refl
plain_back (Plain.JumpIf Comparison.Less a b to) = refl

pub service_back : (m : ServiceMnemonic) → mnemonic_of (service_word m) ≡ Some (Mnemonic.Service m)
unfolding mnemonic_of
service_back (Service.ActivateTask t) = refl
service_back Service.TerminateTask = refl
service_back (Service.ChainTask t) = refl
service_back Service.Schedule = refl
service_back Service.GetTaskId = refl
service_back (Service.GetTaskState t) = refl
service_back (Service.GetResource r) = refl
service_back (Service.ReleaseResource r) = refl
service_back (Service.LoadShared r x) = refl
service_back (Service.StoreShared r x y) = refl
service_back (Service.SetEvent t m) = refl
service_back (Service.ClearEvent m) = refl
service_back (Service.GetEvent t) = refl
service_back (Service.WaitEvent m) = refl
service_back (Service.SetRelAlarm a x y) = refl
service_back (Service.SetAbsAlarm a x y) = refl
service_back (Service.CancelAlarm a) = refl
service_back (Service.GetAlarm a) = refl
service_back (Service.GetAlarmBase a) = refl

pub control_back : (m : ControlMnemonic) → mnemonic_of (control_word m) ≡ Some (Mnemonic.Control m)
unfolding mnemonic_of
control_back Control.DisableAllInterrupts = refl
control_back Control.EnableAllInterrupts = refl
control_back Control.SuspendAllInterrupts = refl
control_back Control.ResumeAllInterrupts = refl
control_back Control.SuspendOsInterrupts = refl
control_back Control.ResumeOsInterrupts = refl
control_back (Control.ShutdownOs n) = refl
control_back Control.ReturnFromInterrupt = refl

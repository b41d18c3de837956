-- The modelled processor. What a word tells, by the kind of its instruction.
use Rattle.std.specs.Prelude.{ℕ, Bool, true, false}
use Rattle.osek_base.specs.declared.instr.Plain.{Plain}
use Rattle.osek_base.specs.declared.instr.Service.{Service}
use Rattle.osek_base.specs.declared.instr.Control.{Control}
use Rattle.osek_base.specs.declared.instr.Instr.{Instr}
use Rattle.osek_base.specs.Types.{ServiceCall, PlainInstr}
use Rattle.machine.specs.Packing.{fields_in, instr_at}
use Rattle.machine.specs.declared.packed_instr.PackedInstr.{PackedInstr}

-- the instruction that a word tells
unfoldable pub instr_of : PackedInstr → Instr
instr_of p = instr_at (fields_in p.word)

abbrev pub is_plain : Instr → Bool
is_plain (Instr.Plain p) = true
is_plain _ = false

abbrev pub is_control : Instr → Bool
is_control (Instr.Control c) = true
is_control _ = false

-- an instruction of each kind, where it is of that kind
abbrev pub plain_of : Instr → PlainInstr
plain_of (Instr.Plain p) = p
plain_of _ = Plain.Nop

abbrev pub service_of : Instr → ServiceCall
service_of (Instr.Service s) = s
service_of _ = Service.TerminateTask

abbrev pub control_of : Instr → Control ℕ
control_of (Instr.Control c) = c
control_of _ = Control.ReturnFromInterrupt

-- whether it is a service with a status of which that is so
abbrev pub if_service : (ServiceCall → Bool) → Instr → Bool
if_service test (Instr.Service s) = test s
if_service test _ = false

-- a service that makes a job where it is answered E_OK
abbrev pub makes_job : ServiceCall → Bool
makes_job (Service.ActivateTask t) = true
makes_job _ = false

-- that ends one
abbrev pub ends_job : ServiceCall → Bool
ends_job Service.TerminateTask = true
ends_job _ = false

-- that may release one, or end one and make another
abbrev pub needs_look : ServiceCall → Bool
needs_look (Service.ChainTask t) = true
needs_look (Service.SetEvent t m) = true
needs_look _ = false

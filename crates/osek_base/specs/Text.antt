-- The text of a trace.
use Rattle.std.specs.Prelude.{ℕ, ◌-◌, Bool, List, [], ◌∷◌, ◌++◌, map, Option, Some, None, length, replicate, codes, decimal}
use Rattle.std.specs.Fmt.{digits}
use Rattle.std.specs.List.{flat_map}
use Rattle.osek_base.specs.Types.{ResId, Plain, PlainInstr, Service, ServiceCall, Control, Instr, Effect, Results, Outcome, Source, TraceEvent}
use Rattle.osek_base.specs.Mnemonics.{plain_word, service_word, control_word}
use Rattle.osek_base.specs.Names.{Names, task_name, owner_name, resource_name, alarm_name}
use Rattle.osek_base.specs.Tick.{Step, status_number}
use Rattle.osek_base.specs.Trace.{Run}

-- ---- names and numbers

abbrev pub task_text : Names → Option ℕ → List ℕ
task_text names None = codes "INVALID"
task_text names (Some t) = task_name names t

abbrev pub resource_text : Names → Option ResId → List ℕ
resource_text names None = codes "INVALID"
resource_text names (Some r) = resource_name names r

abbrev pub alarm_text : Names → Option ℕ → List ℕ
alarm_text names None = codes "INVALID"
alarm_text names (Some a) = alarm_name names a

abbrev pub register_text : ℕ → List ℕ
register_text r = codes "r" ++ decimal r

-- `0x` and eight hexadecimal digits
abbrev pub mask_text : ℕ → List ℕ
mask_text m = let text = digits 16 Bool.false m in codes "0x" ++ replicate (8 - length text) 48 ++ text

-- ---- instructions

-- an operand after another
abbrev pub listed : List (List ℕ) → List ℕ
listed [] = []
listed (x ∷ xs) = codes ", " ++ x ++ listed xs

-- a mnemonic and its operands
abbrev pub written : List ℕ → List (List ℕ) → List ℕ
written word [] = word
written word (x ∷ xs) = word ++ codes " " ++ x ++ listed xs

abbrev pub plain_operands : PlainInstr → List (List ℕ)
plain_operands Plain.Nop = []
plain_operands (Plain.Li d n) = register_text d ∷ decimal n ∷ []
plain_operands (Plain.Mov d a) = register_text d ∷ register_text a ∷ []
plain_operands (Plain.Compute operation d a b) = register_text d ∷ register_text a ∷ register_text b ∷ []
plain_operands (Plain.Ld d a) = register_text d ∷ register_text a ∷ []
plain_operands (Plain.St a b) = register_text a ∷ register_text b ∷ []
plain_operands (Plain.Jmp to) = decimal to ∷ []
plain_operands (Plain.JumpIf test a b to) = register_text a ∷ register_text b ∷ decimal to ∷ []

abbrev pub service_operands : Names → ServiceCall → List (List ℕ)
service_operands names (Service.ActivateTask t) = task_text names t ∷ []
service_operands names (Service.ChainTask t) = task_text names t ∷ []
service_operands names (Service.GetTaskState t) = task_text names t ∷ []
service_operands names (Service.GetResource r) = resource_text names r ∷ []
service_operands names (Service.ReleaseResource r) = resource_text names r ∷ []
service_operands names (Service.LoadShared r x) = resource_text names r ∷ register_text x ∷ []
service_operands names (Service.StoreShared r x y) = resource_text names r ∷ register_text x ∷ register_text y ∷ []
service_operands names (Service.SetEvent t m) = task_text names t ∷ mask_text m ∷ []
service_operands names (Service.ClearEvent m) = mask_text m ∷ []
service_operands names (Service.GetEvent t) = task_text names t ∷ []
service_operands names (Service.WaitEvent m) = mask_text m ∷ []
service_operands names (Service.SetRelAlarm a x y) = alarm_text names a ∷ register_text x ∷ register_text y ∷ []
service_operands names (Service.SetAbsAlarm a x y) = alarm_text names a ∷ register_text x ∷ register_text y ∷ []
service_operands names (Service.CancelAlarm a) = alarm_text names a ∷ []
service_operands names (Service.GetAlarm a) = alarm_text names a ∷ []
service_operands names (Service.GetAlarmBase a) = alarm_text names a ∷ []
service_operands names _ = []

abbrev pub control_operands : Control ℕ → List (List ℕ)
control_operands (Control.ShutdownOs n) = decimal n ∷ []
control_operands _ = []

-- an instruction's text
abbrev pub instruction_text : Names → Instr → List ℕ
instruction_text names (Instr.Plain p) = written (plain_word p) (plain_operands p)
instruction_text names (Instr.Service call) = written (service_word call) (service_operands names call)
instruction_text names (Instr.Control control) = written (control_word control) (control_operands control)

-- ---- lines

abbrev pub results_text : Results → List ℕ
results_text Results.Nothing = []
results_text (Results.One a) = codes " : " ++ decimal a
results_text (Results.Three a b c) = codes " : " ++ decimal a ++ codes " " ++ decimal b ++ codes " " ++ decimal c

abbrev pub outcome_text : Outcome → List ℕ
outcome_text (Outcome.Plain Effect.Nothing) = []
outcome_text (Outcome.Plain (Effect.Value v)) = codes " -> " ++ decimal v
outcome_text (Outcome.Plain (Effect.Stored i v)) = codes " -> [" ++ decimal i ++ codes "] " ++ decimal v
outcome_text (Outcome.Answer status found) = codes " = " ++ decimal (status_number status) ++ results_text found
outcome_text Outcome.Control = []

abbrev pub source_name : Names → Source → List ℕ
source_name names (Source.Owner who) = owner_name names who
source_name names (Source.Alarm a) = codes "@" ++ alarm_name names a

abbrev pub event_text : Names → TraceEvent → List ℕ
event_text names TraceEvent.Startup = codes "startup"
event_text names (TraceEvent.Pre t) = codes "pre " ++ task_name names t
event_text names (TraceEvent.Post t) = codes "post " ++ task_name names t
event_text names (TraceEvent.Executed who place what outcome) =
    owner_name names who ++ codes " " ++ decimal place ++ codes " " ++ instruction_text names what ++ outcome_text outcome
event_text names TraceEvent.Idle = codes "idle"
event_text names TraceEvent.Other = codes "other"
event_text names (TraceEvent.Error who what status) =
    codes "error " ++ source_name names who ++ codes " " ++ instruction_text names what ++ codes " " ++ decimal (status_number status)
event_text names (TraceEvent.Shutdown n) = codes "shutdown " ++ decimal n

-- the line of a record of tick t
abbrev pub line : Names → ℕ → TraceEvent → List ℕ
line names t event = decimal t ++ codes " " ++ event_text names event

-- the lines of a tick
abbrev pub step_lines : Names → Step → List (List ℕ)
step_lines names step = map (line names step.number) step.events

-- the lines of a run
abbrev pub lines : Names → Run → List (List ℕ)
lines names r = flat_map (step_lines names) r.steps

-- the text of a run: each line with its LF
abbrev pub text : Names → Run → List ℕ
text names r = flat_map (λ l. l ++ 10 ∷ []) (lines names r)

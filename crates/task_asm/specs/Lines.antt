-- Program texts: the operands of a line, and the instruction that they make with their mnemonic.
use Rattle.std.specs.Prelude.{◌≡◌, ℕ, ◌-◌, Bool, ◌&&◌, ◌==◌, List, [], ◌∷◌, length, slice_index, Option, Some, None, Result, Ok, Err, if◌then◌else◌, bytes_eq, codes, is_some}
use Rattle.std.specs.Option.{option_map}
use Rattle.osek_base.specs.Words.{is_between}
use Rattle.osek_base.specs.Names.{is_proper_name}
use Rattle.osek_base.specs.Tokens.{Lexeme}
use Rattle.osek_base.specs.declared.instr.Plain.{Plain}
use Rattle.osek_base.specs.Types.{PlainInstr}
use Rattle.osek_base.specs.declared.instr.Service.{Service}
use Rattle.osek_base.specs.declared.instr.Control.{Control}
use Rattle.osek_base.specs.declared.instr.Comparison.{Comparison}
use Rattle.task_asm.specs.declared.mnemonic.Mnemonic.{Mnemonic}
use Rattle.task_asm.specs.declared.program.NamedInstr.{NamedInstr}
use Rattle.task_asm.specs.declared.operands.Refusal.{Refusal}
use Rattle.task_asm.specs.declared.operands.Label.{Label as TheLabel}
use Rattle.task_asm.specs.declared.operands.Title.{Title}
use Rattle.task_asm.specs.declared.instructions.Written.{Written as TheWritten}
use Rattle.task_asm.specs.declared.operands.Refusal.TheVariants as refusal
use Rattle.task_asm.specs.declared.tokens.Sign.{Sign}
use Rattle.task_asm.specs.declared.tokens.Sign.TheVariants as sign
use Rattle.osek_base.specs.declared.lexing.Placed.{Placed}
use Rattle.task_asm.specs.declared.tokens.Token.{Token}
use Rattle.task_asm.specs.Mnemonics.{PlainMnemonic, ServiceMnemonic, ControlMnemonic}
use Rattle.task_asm.specs.Named.{NamedService}
use Rattle.task_asm.specs.Tokens.{lexeme_of, Symbol, Word, Number, Mark}

abbrev pub Tokens : Type 0
Tokens = List (Lexeme Symbol)

-- ---- one operand at the front of tokens

-- what is taken off the front of tokens, and the tokens behind it
pub record Taken (X : Type 0) : Type 0 where
  pub value : X
  pub rest : Tokens

-- what goes on behind something that was taken
abbrev pub after : {X Y : Type 0} → Option (Taken X) → (X → Tokens → Option Y) → Option Y
after None more = None
after (Some t) more = more t.value t.rest

-- the first token, if it means something
abbrev pub first : {X : Type 0} → (Lexeme Symbol → Option X) → Tokens → Option (Taken X)
first meaning [] = None
first meaning (t ∷ ts) = option_map (λ x. record { value = x; rest = ts }) (meaning t)

-- no token is left
abbrev pub ended : {X : Type 0} → Tokens → X → Option X
ended [] x = Some x
ended (t ∷ ts) x = None

abbrev pub is_mark : Sign → Sign → Bool
is_mark sign.Comma sign.Comma = Bool.true
is_mark sign.Colon sign.Colon = Bool.true
is_mark sign.Plus sign.Plus = Bool.true
is_mark _ _ = Bool.false

abbrev pub mark_of : Sign → Lexeme Symbol → Option (Unit {0})
mark_of wanted t = elim t.word [
  | Mark s ↦ if is_mark wanted s then Some tt else None
  | _ ↦ None
]

-- r0 to r7
abbrev pub register_number : List ℕ → Option ℕ
register_number w =
    if (length w == 2) && (slice_index w 0 == 114) && is_between 48 55 (slice_index w 1) then Some (slice_index w 1 - 48) else None

abbrev pub register_of : Lexeme Symbol → Option ℕ
register_of t = elim t.word [ Word w ↦ register_number w | _ ↦ None ]

abbrev pub number_of : Lexeme Symbol → Option ℕ
number_of t = elim t.word [ Number n ↦ Some n | _ ↦ None ]

-- a label and the place where it stands as an operand
pub record Label : Type 0 where
  pub place : ℕ
  pub word : List ℕ

abbrev pub label_of : Lexeme Symbol → Option Label
label_of t = elim t.word [ Word w ↦ Some (record { place = t.place; word = w }) | _ ↦ None ]

-- a name of 1 to 32 bytes that is no register
abbrev pub name_in : List ℕ → Option (List ℕ)
name_in w = elim (register_number w) [
  | Some r ↦ None
  | None ↦ if is_proper_name w then Some w else None
]

abbrev pub name_of : Lexeme Symbol → Option (List ℕ)
name_of t = elim t.word [ Word w ↦ name_in w | _ ↦ None ]

-- a name, or INVALID, which names nothing
abbrev pub object_in : List ℕ → Option (Option (List ℕ))
object_in w = if bytes_eq w (codes "INVALID") then Some None else option_map Some (name_in w)

abbrev pub object_of : Lexeme Symbol → Option (Option (List ℕ))
object_of t = elim t.word [ Word w ↦ object_in w | _ ↦ None ]

-- ---- the operands of a line, which has no other tokens

abbrev pub a_mark : Sign → Tokens → Option (Taken (Unit {0}))
a_mark wanted ts = first (mark_of wanted) ts

abbrev pub a_register : Tokens → Option (Taken ℕ)
a_register ts = first register_of ts

abbrev pub a_number : Tokens → Option (Taken ℕ)
a_number ts = first number_of ts

abbrev pub a_label : Tokens → Option (Taken Label)
a_label ts = first label_of ts

abbrev pub a_name : Tokens → Option (Taken (List ℕ))
a_name ts = first name_of ts

abbrev pub an_object : Tokens → Option (Taken (Option (List ℕ)))
an_object ts = first object_of ts

abbrev pub is_plus : Lexeme Symbol → Bool
is_plus t = is_some (mark_of sign.Plus t)

abbrev pub with_name : List ℕ → Taken (List (List ℕ)) → Taken (List (List ℕ))
with_name n t = record { value = n ∷ t.value; rest = t.rest }

-- the names that are joined by + behind a name
abbrev pub more_names : Tokens → Option (Taken (List (List ℕ)))
more_names [] = Some (record { value = []; rest = [] })
more_names (t ∷ []) = if is_plus t then None else Some (record { value = []; rest = t ∷ [] })
more_names (t ∷ u ∷ ts) = if is_plus t
    then (elim (name_of u) [ Some n ↦ option_map (with_name n) (more_names ts) | None ↦ None ])
    else Some (record { value = []; rest = t ∷ u ∷ ts })

-- one or more events
abbrev pub events : Tokens → Option (Taken (List (List ℕ)))
events ts = after (a_name ts) (λ n rest. option_map (with_name n) (more_names rest))

-- ---- behind a comma

abbrev pub next_register : Tokens → Option (Taken ℕ)
next_register ts = after (a_mark sign.Comma ts) (λ _ rest. a_register rest)

abbrev pub next_number : Tokens → Option (Taken ℕ)
next_number ts = after (a_mark sign.Comma ts) (λ _ rest. a_number rest)

abbrev pub next_label : Tokens → Option (Taken Label)
next_label ts = after (a_mark sign.Comma ts) (λ _ rest. a_label rest)

abbrev pub next_events : Tokens → Option (Taken (List (List ℕ)))
next_events ts = after (a_mark sign.Comma ts) (λ _ rest. events rest)

-- ---- all operands of a line

abbrev pub one_number : Tokens → Option ℕ
one_number ts = after (a_number ts) (λ n rest. ended rest n)

abbrev pub one_label : Tokens → Option Label
one_label ts = after (a_label ts) (λ l rest. ended rest l)

abbrev pub one_object : Tokens → Option (Option (List ℕ))
one_object ts = after (an_object ts) (λ o rest. ended rest o)

abbrev pub only_events : Tokens → Option (List (List ℕ))
only_events ts = after (events ts) (λ es rest. ended rest es)

abbrev pub two_registers : Tokens → Option (ℕ × ℕ)
two_registers ts = after (a_register ts) (λ a rest. after (next_register rest) (λ b rest. ended rest (a, b)))

abbrev pub register_and_number : Tokens → Option (ℕ × ℕ)
register_and_number ts = after (a_register ts) (λ a rest. after (next_number rest) (λ n rest. ended rest (a, n)))

abbrev pub three_registers : Tokens → Option (ℕ × ℕ × ℕ)
three_registers ts = after (a_register ts) (λ a rest. after (next_register rest) (λ b rest.
    after (next_register rest) (λ c rest. ended rest (a, b, c))))

abbrev pub object_and_events : Tokens → Option (Option (List ℕ) × List (List ℕ))
object_and_events ts = after (an_object ts) (λ o rest. after (next_events rest) (λ es rest. ended rest (o, es)))

abbrev pub object_and_register : Tokens → Option (Option (List ℕ) × ℕ)
object_and_register ts = after (an_object ts) (λ o rest. after (next_register rest) (λ a rest. ended rest (o, a)))

abbrev pub object_and_registers : Tokens → Option (Option (List ℕ) × ℕ × ℕ)
object_and_registers ts = after (an_object ts) (λ o rest. after (next_register rest) (λ a rest.
    after (next_register rest) (λ b rest. ended rest (o, a, b))))

-- ---- instructions

-- an instruction as it stands in a line: finished, or a jump whose label is still to be found
pub data Written : Type 0 where
  Ready : NamedInstr → Written
  Jump : Label → Written
  JumpIf : Comparison → ℕ → ℕ → Label → Written

abbrev pub ready : PlainInstr → Written
ready p = Ready (NamedInstr.Plain p)

abbrev pub plain_instruction : PlainMnemonic → Tokens → Option Written
plain_instruction Plain.Nop ts = ended ts (ready Plain.Nop)
plain_instruction (Plain.Li d n) ts = option_map (λ o. ready (Plain.Li o.0 o.1)) (register_and_number ts)
plain_instruction (Plain.Mov d a) ts = option_map (λ o. ready (Plain.Mov o.0 o.1)) (two_registers ts)
plain_instruction (Plain.Compute operation d a b) ts =
    option_map (λ o. ready (Plain.Compute operation o.0 o.1 o.2)) (three_registers ts)
plain_instruction (Plain.Ld d a) ts = option_map (λ o. ready (Plain.Ld o.0 o.1)) (two_registers ts)
plain_instruction (Plain.St a b) ts = option_map (λ o. ready (Plain.St o.0 o.1)) (two_registers ts)
plain_instruction (Plain.Jmp to) ts = option_map Jump (one_label ts)
plain_instruction (Plain.JumpIf test l r to) ts = after (a_register ts) (λ a rest. after (next_register rest) (λ b rest.
    after (next_label rest) (λ l rest. ended rest (JumpIf test a b l))))

abbrev pub service_instruction : ServiceMnemonic → Tokens → Option NamedService
service_instruction (Service.ActivateTask t) ts = option_map Service.ActivateTask (one_object ts)
service_instruction Service.TerminateTask ts = ended ts Service.TerminateTask
service_instruction (Service.ChainTask t) ts = option_map Service.ChainTask (one_object ts)
service_instruction Service.Schedule ts = ended ts Service.Schedule
service_instruction Service.GetTaskId ts = ended ts Service.GetTaskId
service_instruction (Service.GetTaskState t) ts = option_map Service.GetTaskState (one_object ts)
service_instruction (Service.GetResource r) ts = option_map Service.GetResource (one_object ts)
service_instruction (Service.ReleaseResource r) ts = option_map Service.ReleaseResource (one_object ts)
service_instruction (Service.LoadShared r x) ts = option_map (λ o. Service.LoadShared o.0 o.1) (object_and_register ts)
service_instruction (Service.StoreShared r x y) ts = option_map (λ o. Service.StoreShared o.0 o.1 o.2) (object_and_registers ts)
service_instruction (Service.SetEvent t m) ts = option_map (λ o. Service.SetEvent o.0 o.1) (object_and_events ts)
service_instruction (Service.ClearEvent m) ts = option_map Service.ClearEvent (only_events ts)
service_instruction (Service.GetEvent t) ts = option_map Service.GetEvent (one_object ts)
service_instruction (Service.WaitEvent m) ts = option_map Service.WaitEvent (only_events ts)
service_instruction (Service.SetRelAlarm a x y) ts = option_map (λ o. Service.SetRelAlarm o.0 o.1 o.2) (object_and_registers ts)
service_instruction (Service.SetAbsAlarm a x y) ts = option_map (λ o. Service.SetAbsAlarm o.0 o.1 o.2) (object_and_registers ts)
service_instruction (Service.CancelAlarm a) ts = option_map Service.CancelAlarm (one_object ts)
service_instruction (Service.GetAlarm a) ts = option_map Service.GetAlarm (one_object ts)
service_instruction (Service.GetAlarmBase a) ts = option_map Service.GetAlarmBase (one_object ts)

abbrev pub control_instruction : ControlMnemonic → Tokens → Option (Control ℕ)
control_instruction Control.DisableAllInterrupts ts = ended ts Control.DisableAllInterrupts
control_instruction Control.EnableAllInterrupts ts = ended ts Control.EnableAllInterrupts
control_instruction Control.SuspendAllInterrupts ts = ended ts Control.SuspendAllInterrupts
control_instruction Control.ResumeAllInterrupts ts = ended ts Control.ResumeAllInterrupts
control_instruction Control.SuspendOsInterrupts ts = ended ts Control.SuspendOsInterrupts
control_instruction Control.ResumeOsInterrupts ts = ended ts Control.ResumeOsInterrupts
control_instruction (Control.ShutdownOs n) ts = option_map Control.ShutdownOs (one_number ts)
control_instruction Control.ReturnFromInterrupt ts = ended ts Control.ReturnFromInterrupt

-- the instruction that a mnemonic and the tokens behind it on its line make, if they are just its operands
abbrev pub instruction : Mnemonic → Tokens → Option Written
instruction (Mnemonic.Plain m) ts = plain_instruction m ts
instruction (Mnemonic.Service m) ts = option_map (λ s. Ready (NamedInstr.Service s)) (service_instruction m ts)
instruction (Mnemonic.Control m) ts = option_map (λ c. Ready (NamedInstr.Control c)) (control_instruction m ts)

-- the one word of a line, a name of 1 to 32 bytes
abbrev pub title_of : Lexeme Symbol → Option Title
title_of t = elim t.word [ Word w ↦ if is_proper_name w then Some (record { place = t.place; name = w }) else None | _ ↦ None ]

abbrev pub one_title : Tokens → Option Title
one_title ts = after (first title_of ts) (λ x rest. ended rest x)

-- ---- what the code answers

-- what is taken off the front of tokens; refused where it doesn't stand there. Of a want of memory nothing is said
abbrev pub Takes : {X : Type 0} → Option (Taken X) → Result X Refusal → Tokens → Type 0
Takes o (Ok x) rest = o ≡ Some (record { value = x; rest = rest })
Takes o (Err refusal.Operand) rest = o ≡ None
Takes o (Err refusal.Memory) rest = Unit {0}

-- the same without memory
abbrev pub TakesSurely : {X : Type 0} → Option (Taken X) → Result X Refusal → Tokens → Type 0
TakesSurely o (Ok x) rest = o ≡ Some (record { value = x; rest = rest })
TakesSurely o (Err refusal.Operand) rest = o ≡ None
TakesSurely o (Err refusal.Memory) rest = ⊥

abbrev pub TakesToken : Tokens → Result (Placed Token) Refusal → Tokens → Type 0
TakesToken ts (Ok t) rest = ts ≡ lexeme_of t ∷ rest
TakesToken ts (Err refusal.Operand) rest = ts ≡ []
TakesToken ts (Err refusal.Memory) rest = ⊥

-- what the tokens are as a whole; refused where they aren't that
abbrev pub Answers : {X : Type 0} → Option X → Result X Refusal → Type 0
Answers o (Ok x) = o ≡ Some x
Answers o (Err refusal.Operand) = o ≡ None
Answers o (Err refusal.Memory) = Unit {0}

abbrev pub AnswersSurely : {X : Type 0} → Option X → Result X Refusal → Type 0
AnswersSurely o (Ok x) = o ≡ Some x
AnswersSurely o (Err refusal.Operand) = o ≡ None
AnswersSurely o (Err refusal.Memory) = ⊥

abbrev pub label_value : TheLabel → Label
label_value l = record { place = l.place; word = l.word.now }

abbrev pub TakesLabel : Option (Taken Label) → Result TheLabel Refusal → Tokens → Type 0
TakesLabel o (Ok l) rest = o ≡ Some (record { value = label_value l; rest = rest })
TakesLabel o (Err refusal.Operand) rest = o ≡ None
TakesLabel o (Err refusal.Memory) rest = Unit {0}

abbrev pub LabelAnswers : Option Label → Result TheLabel Refusal → Type 0
LabelAnswers o (Ok l) = o ≡ Some (label_value l)
LabelAnswers o (Err refusal.Operand) = o ≡ None
LabelAnswers o (Err refusal.Memory) = Unit {0}

abbrev pub written_value : TheWritten → Written
written_value (TheWritten.Ready i) = Ready i
written_value (TheWritten.Jump l) = Jump (label_value l)
written_value (TheWritten.JumpIf test a b l) = JumpIf test a b (label_value l)

abbrev pub AnswersWritten : Option Written → Result TheWritten Refusal → Type 0
AnswersWritten o (Ok w) = o ≡ Some (written_value w)
AnswersWritten o (Err refusal.Operand) = o ≡ None
AnswersWritten o (Err refusal.Memory) = Unit {0}

-- a + that was taken, or there was none
abbrev pub TakesPlus : Tokens → Bool → Tokens → Type 0
TakesPlus ts Bool.true rest = a_mark sign.Plus ts ≡ Some (record { value = tt; rest = rest })
TakesPlus ts Bool.false rest = (rest ≡ ts) × (a_mark sign.Plus ts ≡ None)

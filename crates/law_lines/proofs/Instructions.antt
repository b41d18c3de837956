-- How long the instructions of a proper system's programs are as texts.
use Rattle.std.proofs.Common.{ℕ, ◌≡◌, ◌<◌, ◌≤◌, ◌^◌, inl, inr, Bool, true, false, ◌&&◌, List, [], ◌∷◌, length, refl, sym, subst, arith}
use Rattle.std.specs.Prelude.{codes, decimal, Option}
use Rattle.std.proofs.lemmas.Bool.{cases_lt, and_parts, ltb-true}
use Rattle.std.proofs.lemmas.List.{get_or_past}
use Rattle.osek_base.specs.declared.ids.Owner.{Owner}
use Rattle.osek_base.specs.declared.instr.Comparison.{Comparison}
use Rattle.osek_base.specs.declared.instr.Control.{Control}
use Rattle.osek_base.specs.declared.instr.Instr.{Instr}
use Rattle.osek_base.specs.declared.instr.Operation.{Operation}
use Rattle.osek_base.specs.declared.instr.Plain.{Plain}
use Rattle.osek_base.specs.declared.instr.Service.{Service}
use Rattle.osek_base.specs.declared.limits.TheConstants.{MAX_INSTRUCTIONS}
use Rattle.osek_base.specs.Mnemonics.{comparison_word, operation_word}
use Rattle.osek_base.specs.Names.{Names}
use Rattle.osek_base.specs.Proper.{IsProper, is_proper_control, is_proper_instruction, is_proper_mask, is_proper_plain, is_proper_service, is_register, is_word}
use Rattle.osek_base.specs.Separable.{IsOwner}
use Rattle.osek_base.specs.System.{System, Routine, Task, instruction_at, instruction_in, no_routine, no_task, program}
use Rattle.osek_base.specs.Text.{alarm_text, instruction_text, mask_text, register_text, resource_text, task_text, written}
use Rattle.osek_base.specs.Types.{PlainInstr, ServiceCall}
use Rattle.osek_base.proofs.PlaceLemmas.{is_routine, known_place}
use Rattle.law_lines.proofs.Lengths.{AreWithin, room, four_digits, mask_long, register_long, ten_digits, written_long}
use Rattle.law_lines.proofs.Named.{HasShortNames, alarm_long, resource_long, task_long}

-- ---- plain instructions, and services without an answer

register : (r : ℕ) → is_register r ≡ true → length (register_text r) ≤ 2
register r proper = register_long r (ltb-true r 8 proper)

pub proper_mask : (m : ℕ) → is_proper_mask m ≡ true → m < 2 ^ 32
proper_mask m proper = ltb-true m (2 ^ 32) (and_parts _ (is_word m) proper).1

mask : (m : ℕ) → is_proper_mask m ≡ true → length (mask_text m) ≤ 10
mask m proper = mask_long m (proper_mask m proper)

operation_long : (operation : Operation) → length (operation_word operation) ≤ 3
operation_long Operation.Add = omega arith
operation_long Operation.Sub = omega arith
operation_long Operation.Mul = omega arith
operation_long Operation.And = omega arith
operation_long Operation.Or = omega arith
operation_long Operation.Xor = omega arith

comparison_long : (test : Comparison) → length (comparison_word test) ≤ 3
comparison_long Comparison.Equal = omega arith
comparison_long Comparison.NotEqual = omega arith
comparison_long Comparison.Less = omega arith

module _ (names : Names) where
  pub plain_long : (size : ℕ) (p : PlainInstr) → size ≤ MAX_INSTRUCTIONS
      → is_proper_plain size p ≡ true
      → length (instruction_text names (Instr.Plain p)) ≤ 17
  plain_long size Plain.Nop few proper = omega arith
  plain_long size (Plain.Li d n) few proper =
      let both = and_parts (is_register d) (is_word n) proper in
      let long = written_long (codes "LI") (register_text d) (decimal n ∷ []) 2 2 (10 ∷ [])
      (omega arith)
      (register d both.0) (ten_digits n (ltb-true n (2 ^ 32) both.1), tt) in
      omega (arith, long)
  plain_long size (Plain.Mov d a) few proper =
      let both = and_parts (is_register d) (is_register a) proper in
      let long = written_long (codes "MOV") (register_text d) (register_text a ∷ []) 3 2 (2 ∷ [])
      (omega arith)
      (register d both.0) (register a both.1, tt) in
      omega (arith, long)
  plain_long size (Plain.Compute operation d a b) few proper =
      let all = and_parts (is_register d && is_register a) (is_register b) proper in
      let both = and_parts (is_register d) (is_register a) all.0 in
      let long = written_long (operation_word operation) (register_text d)
      (register_text a ∷ register_text b ∷ []) 3 2 (2 ∷ 2 ∷ [])
      (operation_long operation) (register d both.0) (register a both.1, (register b all.1, tt)) in
      omega (arith, long)
  plain_long size (Plain.Ld d a) few proper =
      let both = and_parts (is_register d) (is_register a) proper in
      let long = written_long (codes "LD") (register_text d) (register_text a ∷ []) 2 2 (2 ∷ [])
      (omega arith)
      (register d both.0) (register a both.1, tt) in
      omega (arith, long)
  plain_long size (Plain.St a b) few proper =
      let both = and_parts (is_register a) (is_register b) proper in
      let long = written_long (codes "ST") (register_text a) (register_text b ∷ []) 2 2 (2 ∷ [])
      (omega arith)
      (register a both.0) (register b both.1, tt) in
      omega (arith, long)
  plain_long size (Plain.Jmp to) few proper =
      let inside = ltb-true to size proper in
      let long = written_long (codes "JMP") (decimal to) [] 3 4 [] (omega arith)
      (four_digits to (omega (arith, inside, few))) tt in
      omega (arith, long)
  plain_long size (Plain.JumpIf test a b to) few proper =
      let all = and_parts (is_register a && is_register b) _ proper in
      let both = and_parts (is_register a) (is_register b) all.0 in
      let inside = ltb-true to size all.1 in
      let long = written_long (comparison_word test) (register_text a)
      (register_text b ∷ decimal to ∷ []) 3 2 (2 ∷ 4 ∷ [])
      (comparison_long test) (register a both.0)
      (register b both.1, (four_digits to (omega (arith, inside, few)), tt)) in
      omega (arith, long)

  pub control_long : (in_routine : Bool) (control : Control ℕ)
      → is_proper_control in_routine control ≡ true
      → length (instruction_text names (Instr.Control control)) ≤ 15
  control_long in_routine (Control.ShutdownOs n) proper =
      let long = written_long (codes "SHUT") (decimal n) [] 4 10 [] (omega arith)
      (ten_digits n (ltb-true n (2 ^ 32) proper)) tt in
      omega (arith, long)
  control_long in_routine Control.DisableAllInterrupts proper = omega arith
  control_long in_routine Control.EnableAllInterrupts proper = omega arith
  control_long in_routine Control.SuspendAllInterrupts proper = omega arith
  control_long in_routine Control.ResumeAllInterrupts proper = omega arith
  control_long in_routine Control.SuspendOsInterrupts proper = omega arith
  control_long in_routine Control.ResumeOsInterrupts proper = omega arith
  control_long in_routine Control.ReturnFromInterrupt proper = omega arith

  -- ---- services

  module _ (short : HasShortNames names) where
    -- the words of services have four letters, one has five
    lone : (word name : List ℕ) → length word ≤ 5 → length name ≤ 32
        → length (written word (name ∷ [])) ≤ 49
    lone word name few long =
        let all = written_long word name [] 5 32 [] few long tt in omega (arith, all)

    before : (word name : List ℕ) (xs : List (List ℕ)) (ns : List ℕ) → length word ≤ 4
        → length name ≤ 32
        → AreWithin xs ns → room ns ≤ 12 → length (written word (name ∷ xs)) ≤ 49
    before word name xs ns few long within most =
        let all = written_long word name xs 4 32 ns few long within in omega (arith, all, most)

    with_two : (word name : List ℕ) (x y : ℕ) → length word ≤ 4 → length name ≤ 32
        → is_register x ≡ true → is_register y ≡ true
        → length (written word (name ∷ register_text x ∷ register_text y ∷ [])) ≤ 49
    with_two word name x y few long one other =
        before word name (register_text x ∷ register_text y ∷ []) (2 ∷ 2 ∷ []) few long
        (register x one, (register y other, tt)) (omega arith)

    pub service_long : (S : System) (call : ServiceCall) → is_proper_service S call ≡ true
        → length (instruction_text names (Instr.Service call)) ≤ 49
    service_long S (Service.ActivateTask t) proper =
        lone (codes "ACT") (task_text names t) (omega arith) (task_long names short t)
    service_long S Service.TerminateTask proper = omega arith
    service_long S (Service.ChainTask t) proper =
        lone (codes "CHAIN") (task_text names t) (omega arith) (task_long names short t)
    service_long S Service.Schedule proper = omega arith
    service_long S Service.GetTaskId proper = omega arith
    service_long S (Service.GetTaskState t) proper =
        lone (codes "GTST") (task_text names t) (omega arith) (task_long names short t)
    service_long S (Service.GetResource r) proper =
        lone (codes "GETR") (resource_text names r) (omega arith) (resource_long names short r)
    service_long S (Service.ReleaseResource r) proper =
        lone (codes "RELR") (resource_text names r) (omega arith) (resource_long names short r)
    service_long S (Service.LoadShared r x) proper =
        before (codes "LDR") (resource_text names r) (register_text x ∷ []) (2 ∷ []) (omega arith)
        (resource_long names short r)
        (register x (and_parts _ (is_register x) proper).1, tt) (omega arith)
    service_long S (Service.StoreShared r x y) proper =
        let all = and_parts _ (is_register y) proper in
        with_two (codes "STR") (resource_text names r) x y (omega arith)
        (resource_long names short r)
        (and_parts _ (is_register x) all.0).1 all.1
    service_long S (Service.SetEvent t m) proper =
        before (codes "SETE") (task_text names t) (mask_text m ∷ []) (10 ∷ []) (omega arith)
        (task_long names short t)
        (mask m (and_parts _ (is_proper_mask m) proper).1, tt) (omega arith)
    service_long S (Service.ClearEvent m) proper =
        lone (codes "CLRE") (mask_text m) (omega arith)
        (let long = mask m proper in omega (arith, long))
    service_long S (Service.GetEvent t) proper =
        lone (codes "GETE") (task_text names t) (omega arith) (task_long names short t)
    service_long S (Service.WaitEvent m) proper =
        lone (codes "WAIT") (mask_text m) (omega arith)
        (let long = mask m proper in omega (arith, long))
    service_long S (Service.SetRelAlarm a x y) proper =
        let all = and_parts _ (is_register y) proper in
        with_two (codes "SREL") (alarm_text names a) x y (omega arith) (alarm_long names short a)
        (and_parts _ (is_register x) all.0).1 all.1
    service_long S (Service.SetAbsAlarm a x y) proper =
        let all = and_parts _ (is_register y) proper in
        with_two (codes "SABS") (alarm_text names a) x y (omega arith) (alarm_long names short a)
        (and_parts _ (is_register x) all.0).1 all.1
    service_long S (Service.CancelAlarm a) proper =
        lone (codes "CANA") (alarm_text names a) (omega arith) (alarm_long names short a)
    service_long S (Service.GetAlarm a) proper =
        lone (codes "GALM") (alarm_text names a) (omega arith) (alarm_long names short a)
    service_long S (Service.GetAlarmBase a) proper =
        lone (codes "GBAS") (alarm_text names a) (omega arith) (alarm_long names short a)

    pub base_long : (a : Option ℕ)
        → length (instruction_text names (Instr.Service (Service.GetAlarmBase a))) ≤ 37
    base_long a =
        let all = written_long (codes "GBAS") (alarm_text names a) [] 4 32 [] (omega arith)
        (alarm_long names short a) tt in
        omega (arith, all)

    pub instruction_long : (S : System) (in_routine : Bool) (size : ℕ) (what : Instr)
        → size ≤ MAX_INSTRUCTIONS
        → is_proper_instruction S in_routine size what ≡ true
        → length (instruction_text names what) ≤ 49
    instruction_long S in_routine size (Instr.Plain p) few proper =
        let long = plain_long size p few proper in omega (arith, long)
    instruction_long S in_routine size (Instr.Service call) few proper = service_long S call proper
    instruction_long S in_routine size (Instr.Control control) few proper =
        let long = control_long in_routine control proper in omega (arith, long)

-- ---- what stands at a place

-- an instruction that a program of the system may have
pub record IsAllowed (S : System) (what : Instr) : Type 0 where
  pub in_routine : Bool
  pub size : ℕ
  pub few : size ≤ MAX_INSTRUCTIONS
  pub operands : is_proper_instruction S in_routine size what ≡ true

allowed_nothing : (S : System) → IsAllowed S (Instr.Plain Plain.Nop)
allowed_nothing S = record { in_routine = false; size = 0; few = omega arith; operands = refl }

allowed_in : (S : System) (who : Owner) (place : ℕ) → IsProper S → IsOwner S who
    → IsAllowed S (instruction_at S who place)
allowed_in S who place proper known = elim (cases_lt place (length (program S who))) [
  | inl inside ↦
      let here = known_place S who place proper known inside in
      record {
        in_routine = is_routine who;
        size = length
            (program S who);
        few = here.short;
        operands = here.operands;
      }
  | inr past ↦ subst (IsAllowed S)
      (sym (get_or_past (program S who) place (Instr.Plain Plain.Nop) past)) (allowed_nothing S)
]

-- also at a place of no program, where NOP stands
pub allowed_at : (S : System) (who : Owner) (place : ℕ) → IsProper S
    → IsAllowed S (instruction_at S who place)
allowed_at S (Owner.Task t) place proper = elim (cases_lt t (length S.tasks)) [
  | inl inside ↦ allowed_in S (Owner.Task t) place proper inside
  | inr past ↦
      subst (λ (a : Task). IsAllowed S (instruction_in a.program place))
      (sym (get_or_past S.tasks t no_task past)) (allowed_nothing S)
]
allowed_at S (Owner.Routine i) place proper = elim (cases_lt i (length S.routines)) [
  | inl inside ↦ allowed_in S (Owner.Routine i) place proper inside
  | inr past ↦
      subst (λ (a : Routine). IsAllowed S (instruction_in a.program place))
      (sym (get_or_past S.routines i no_routine past)) (allowed_nothing S)
]

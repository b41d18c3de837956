-- A program whose references are known, that can't be left and whose operands are typed is proper under its numbers.
use Rattle.std.proofs.Common.{◌≡◌, ℕ, zero, suc, ◌-◌, ◌≤◌, Bool, true, false, not, List, [], ◌∷◌, length, map, Option, Some, None, refl, sym, subst, ap, ◌∙◌, arith}
use Rattle.std.specs.Prelude.{◌&&◌, ◌||◌, ◌^◌, if◌then◌else◌, nat_lt, nat_le, bit_or, slice_get}
use Rattle.std.specs.List.{list_all, list_any, find, AllByRecursion}
use Rattle.std.specs.Option.{option_map_or}
use Rattle.std.proofs.lemmas.Bool.{false≢true, ltb-true, lt-ltb, leb-true, le-leb, and_parts, and_from}
use Rattle.std.proofs.lemmas.Nat.{or_of_32, le_or_r}
use Rattle.std.proofs.lemmas.List.{length-map}
use Rattle.osek_base.specs.declared.instr.Service.{Service}
use Rattle.osek_base.specs.declared.limits.TheConstants.{MAX_INSTRUCTIONS, MAX_ROUTINE_PRIORITY}
use Rattle.osek_base.specs.declared.ids.ResId.{ResId}
use Rattle.osek_base.specs.declared.instr.Plain.{Plain}
use Rattle.osek_base.specs.Types.{PlainInstr}
use Rattle.osek_base.specs.declared.instr.Control.{Control}
use Rattle.osek_base.specs.Lists.{is_empty}
use Rattle.osek_base.specs.Names.{is_named}
use Rattle.osek_base.specs.System.{System}
use Rattle.osek_base.specs.Ceiling.{is_internal}
use Rattle.osek_base.specs.Proper.{is_word, is_proper_mask, may_be_got, is_task_operand, is_alarm_operand, is_resource_operand, is_proper_plain, is_proper_service, is_proper_control, is_proper_instruction, is_end_instruction, is_proper_program, is_proper_routine}
use Rattle.oil_reader.specs.Configuration.{Configuration, TaskRecord, IsrRecord}
use Rattle.oil_reader.specs.declared.syntax.Kind.TheVariants as kind
use Rattle.oil_reader.specs.Checked.{is_object_name, is_checked_isr}
use Rattle.task_asm.specs.Named.{NamedService}
use Rattle.task_asm.specs.declared.program.NamedInstr.{NamedInstr}
use Rattle.task_asm.specs.declared.program.ProgramKind.{ProgramKind}
use Rattle.task_asm.specs.Programs.{Program}
use Rattle.system_gen.specs.Checks as checks
use Rattle.system_gen.specs.DeclaredNames.{number}
use Rattle.system_gen.specs.References.{first_of, unknown, unknown_in, unknown_operand, is_res_scheduler, resource_reference, service_reference, instruction_reference, owner_reference, program_reference}
use Rattle.task_asm.specs.Labels.{is_kind}
use Rattle.system_gen.specs.Programs.{is_end, ends_well, jumps_below, is_closed, is_return, may_have, returns_well, is_program_of, has_task_program, has_routine_program}
use Rattle.system_gen.specs.Generated.{Known, task_operand, alarm_operand, resource_operand, mask_of, with_masks, union, resolved_service, resolved_instruction, resolved_program, program_for, resolved_routine}
use Rattle.system_gen.specs.Typed.{is_typed_plain, is_typed_service, is_typed_control, is_typed, are_typed}
use Rattle.system_gen.proofs.FaultLemmas.{none_of}
use Rattle.system_gen.proofs.ObjectsProper.{known_name}

-- what is known of a system S whose names are those of f under the numbers of k
pub record AreKnown (f : Configuration) (k : Known) (S : System) : Type 0 where
  pub each_task : (name : List ℕ) → is_named name k.declared.tasks ≡ true → nat_lt (number k.declared.tasks name) (length S.tasks) ≡ true
  pub each_alarm : (name : List ℕ) → is_named name k.declared.alarms ≡ true → nat_lt (number k.declared.alarms name) (length S.alarms) ≡ true
  pub each_resource : (name : List ℕ) → is_named name k.declared.resources ≡ true → nat_lt (number k.declared.resources name) (length S.resources) ≡ true
  pub each_property : (name : List ℕ) → is_named name k.declared.resources ≡ true
      → is_internal S (number k.declared.resources name) ≡ checks.is_internal f.resources name
  pub each_mask : (name : List ℕ) → is_named name k.declared.events ≡ true → is_proper_mask (mask_of k name) ≡ true
  pub scheduler : S.use_res_scheduler ≡ f.os.use_res_scheduler

-- ---- faults and what is found

passed : {X : Type 0} (b : Bool) (x : X) → (if b then None else Some x) ≡ None → b ≡ true
passed true x e = refl
passed false x e = grind (arith, e)

-- an element that is found passes the test, and has what all have
found : {X : Type 0} (test : X → Bool) (P : X → Type 0) (xs : List X) → AllByRecursion P xs → list_any test xs ≡ true
    → (x : X) × (find test xs ≡ Some x) × (test x ≡ true) × P x
found test P [] all e = absurd (false≢true e)
found test P (x ∷ xs) all e = here test P x xs all.0 (test x) refl e (λ h. found test P xs all.1 h)
  where
    here : {X : Type 0} (test : X → Bool) (P : X → Type 0) (x : X) (xs : List X) → P x → (b : Bool) → test x ≡ b → (b || list_any test xs) ≡ true
        → (list_any test xs ≡ true → (y : X) × (find test xs ≡ Some y) × (test y ≡ true) × P y)
        → (y : X) × ((if b then Some x else find test xs) ≡ Some y) × (test y ≡ true) × P y
    here test P x xs p true is e more = (x, refl, is, p)
    here test P x xs p false is e more = more e

-- ---- unions of masks

or_proper : (a b : ℕ) → is_word a ≡ true → is_proper_mask b ≡ true → is_proper_mask (bit_or a b) ≡ true
or_proper a b p q =
    let mask = and_parts (nat_le 1 b) (is_word b) q in
    let some : 1 ≤ bit_or a b = omega (arith, leb-true 1 b mask.0, le_or_r a b) in
    and_from _ _ (le-leb 1 (bit_or a b) some) (lt-ltb (bit_or a b) (2 ^ 32) (or_of_32 a b (ltb-true a (2 ^ 32) p) (ltb-true b (2 ^ 32) mask.1)))

module _ (k : Known) where
  abbrev HaveMasks : List (List ℕ) → Type 0
  HaveMasks names = AllByRecursion (λ name. is_proper_mask (mask_of k name) ≡ true) names

  joined_proper : (bits : ℕ) (names : List (List ℕ)) → is_proper_mask bits ≡ true → HaveMasks names → is_proper_mask (with_masks k bits names) ≡ true
  joined_proper bits [] p all = p
  joined_proper bits (name ∷ names) p all =
      joined_proper (bit_or bits (mask_of k name)) names (or_proper bits (mask_of k name) (and_parts (nat_le 1 bits) (is_word bits) p).1 all.0) all.1

  union_proper : (names : List (List ℕ)) → not (is_empty names) ≡ true → HaveMasks names → is_proper_mask (union k names) ≡ true
  union_proper [] some all = absurd (false≢true some)
  union_proper (name ∷ names) some all = joined_proper (bit_or 0 (mask_of k name)) names (or_proper 0 (mask_of k name) refl all.0) all.1

-- ---- instructions

-- only a routine has what returns from an interrupt
abbrev may_stand : Bool → NamedInstr → Bool
may_stand in_routine i = not (is_return i) || in_routine

module _ (f : Configuration) (k : Known) (S : System) (known : AreKnown f k S) where
  masks_known : (names : List (List ℕ)) → unknown_in k.declared.events names ≡ None → HaveMasks k names
  masks_known [] e = tt
  masks_known (name ∷ names) e =
      let h = none_of (unknown k.declared.events name) (unknown_in k.declared.events names) e in
      (known.each_mask name (known_name k.declared.events name h.0), masks_known names h.1)

  events_proper : (names : List (List ℕ)) → unknown_in k.declared.events names ≡ None → not (is_empty names) ≡ true → is_proper_mask (union k names) ≡ true
  events_proper names e some = union_proper k names some (masks_known names e)

  task_known : (o : Option (List ℕ)) → unknown_operand k.declared.tasks o ≡ None → is_task_operand S (task_operand k o) ≡ true
  task_known None e = refl
  task_known (Some name) e = known.each_task name (known_name k.declared.tasks name e)

  alarm_known : (o : Option (List ℕ)) → unknown_operand k.declared.alarms o ≡ None → is_alarm_operand S (alarm_operand k o) ≡ true
  alarm_known None e = refl
  alarm_known (Some name) e = known.each_alarm name (known_name k.declared.alarms name e)

  got : (is_scheduler : Bool) (name : List ℕ)
      → (if is_scheduler then f.os.use_res_scheduler else (is_named name k.declared.resources && not (checks.is_internal f.resources name))) ≡ true
      → may_be_got S (if is_scheduler then ResId.Scheduler else ResId.Declared (number k.declared.resources name)) ≡ true
  got true name e = known.scheduler ∙ e
  got false name e =
      let h = and_parts (is_named name k.declared.resources) (not (checks.is_internal f.resources name)) e in
      and_from _ _ (known.each_resource name h.0) (ap not (known.each_property name h.0) ∙ h.1)

  resource_known : (o : Option (List ℕ)) → resource_reference f k.declared o ≡ None → is_resource_operand S (resource_operand k o) ≡ true
  resource_known None e = refl
  resource_known (Some name) e = got (is_res_scheduler name) name (passed _ _ e)

  service_proper : (call : NamedService) → service_reference f k.declared call ≡ None → is_typed_service call ≡ true → is_proper_service S (resolved_service k call) ≡ true
  service_proper (Service.ActivateTask task) e t = task_known task e
  service_proper Service.TerminateTask e t = refl
  service_proper (Service.ChainTask task) e t = task_known task e
  service_proper Service.Schedule e t = refl
  service_proper Service.GetTaskId e t = refl
  service_proper (Service.GetTaskState task) e t = task_known task e
  service_proper (Service.GetResource resource) e t = resource_known resource e
  service_proper (Service.ReleaseResource resource) e t = resource_known resource e
  service_proper (Service.LoadShared resource index) e t = and_from _ _ (resource_known resource e) t
  service_proper (Service.StoreShared resource index word) e t =
      let h = and_parts _ _ t in
      and_from _ _ (and_from _ _ (resource_known resource e) h.0) h.1
  service_proper (Service.SetEvent task events) e t =
      let h = none_of (unknown_operand k.declared.tasks task) (unknown_in k.declared.events events) e in
      and_from _ _ (task_known task h.0) (events_proper events h.1 t)
  service_proper (Service.ClearEvent events) e t = events_proper events e t
  service_proper (Service.GetEvent task) e t = task_known task e
  service_proper (Service.WaitEvent events) e t = events_proper events e t
  service_proper (Service.SetRelAlarm alarm increment cycle) e t =
      let h = and_parts _ _ t in
      and_from _ _ (and_from _ _ (alarm_known alarm e) h.0) h.1
  service_proper (Service.SetAbsAlarm alarm start cycle) e t =
      let h = and_parts _ _ t in
      and_from _ _ (and_from _ _ (alarm_known alarm e) h.0) h.1
  service_proper (Service.CancelAlarm alarm) e t = alarm_known alarm e
  service_proper (Service.GetAlarm alarm) e t = alarm_known alarm e
  service_proper (Service.GetAlarmBase alarm) e t = alarm_known alarm e

  plain_proper : (size : ℕ) (plain : PlainInstr) → jumps_below size (NamedInstr.Plain plain) ≡ true → is_typed_plain plain ≡ true → is_proper_plain size plain ≡ true
  plain_proper size Plain.Nop j t = refl
  plain_proper size (Plain.Li d n) j t = t
  plain_proper size (Plain.Mov d a) j t = t
  plain_proper size (Plain.Compute operation d a b) j t = t
  plain_proper size (Plain.Ld d a) j t = t
  plain_proper size (Plain.St a b) j t = t
  plain_proper size (Plain.Jmp to) j t = j
  plain_proper size (Plain.JumpIf test a b to) j t = and_from _ _ t j

  control_proper : (in_routine : Bool) (control : Control ℕ) → is_typed_control control ≡ true → may_stand in_routine (NamedInstr.Control control) ≡ true
      → is_proper_control in_routine control ≡ true
  control_proper in_routine (Control.ShutdownOs n) t r = t
  control_proper in_routine Control.ReturnFromInterrupt t r = r
  control_proper in_routine _ t r = refl

  instruction_proper : (in_routine : Bool) (size : ℕ) (i : NamedInstr) → jumps_below size i ≡ true → is_typed i ≡ true
      → instruction_reference f k.declared i ≡ None → may_stand in_routine i ≡ true → is_proper_instruction S in_routine size (resolved_instruction k i) ≡ true
  instruction_proper in_routine size (NamedInstr.Plain plain) j t e r = plain_proper size plain j t
  instruction_proper in_routine size (NamedInstr.Service call) j t e r = service_proper call e t
  instruction_proper in_routine size (NamedInstr.Control control) j t e r = control_proper in_routine control t r

  each_proper : (in_routine : Bool) (size : ℕ) (is : List NamedInstr) → list_all (jumps_below size) is ≡ true → list_all is_typed is ≡ true
      → first_of (instruction_reference f k.declared) is ≡ None → list_all (may_stand in_routine) is ≡ true
      → list_all (is_proper_instruction S in_routine size) (resolved_program k is) ≡ true
  each_proper in_routine size [] j t e r = refl
  each_proper in_routine size (i ∷ is) j t e r =
      let jumps = and_parts (jumps_below size i) (list_all (jumps_below size) is) j in
      let typed = and_parts (is_typed i) (list_all is_typed is) t in
      let names = none_of (instruction_reference f k.declared i) (first_of (instruction_reference f k.declared) is) e in
      let returns = and_parts (may_stand in_routine i) (list_all (may_stand in_routine) is) r in
      and_from _ _ (instruction_proper in_routine size i jumps.0 typed.0 names.0 returns.0) (each_proper in_routine size is jumps.1 typed.1 names.1 returns.1)

-- ---- programs

module _ (k : Known) where
  end_same : (i : NamedInstr) → is_end_instruction (resolved_instruction k i) ≡ is_end i
  end_same (NamedInstr.Plain (Plain.Jmp to)) = refl
  end_same (NamedInstr.Plain _) = refl
  end_same (NamedInstr.Service call) = refl
  end_same (NamedInstr.Control Control.ReturnFromInterrupt) = refl
  end_same (NamedInstr.Control _) = refl

  end_at : (is : List NamedInstr) (n : ℕ) → option_map_or is_end_instruction (slice_get (resolved_program k is) n) false ≡ option_map_or is_end (slice_get is n) false
  end_at [] n = refl
  end_at (i ∷ is) zero = end_same i
  end_at (i ∷ is) (suc n) = end_at is n

split_or : (a b : Bool) → not (a || b) ≡ true → (not a ≡ true) × (not b ≡ true)
split_or true b e = absurd (false≢true e)
split_or false b e = (refl, e)

or_left : (a b : Bool) → a ≡ true → (a || b) ≡ true
or_left a b e = ap (λ x. x || b) e

or_right : (a : Bool) → (a || true) ≡ true
or_right true = refl
or_right false = refl

-- whose program may return from an interrupt
abbrev pub is_of_routine : ProgramKind → Bool
is_of_routine ProgramKind.Task = false
is_of_routine ProgramKind.Routine = true

none_returns : (is : List NamedInstr) → not (list_any is_return is) ≡ true → list_all (may_stand false) is ≡ true
none_returns [] e = refl
none_returns (i ∷ is) e =
    let h = split_or (is_return i) (list_any is_return is) e in
    and_from _ _ (or_left (not (is_return i)) false h.0) (none_returns is h.1)

any_returns : (is : List NamedInstr) → list_all (may_stand true) is ≡ true
any_returns [] = refl
any_returns (i ∷ is) = and_from _ _ (or_right (not (is_return i))) (any_returns is)

each_stands : (kind : ProgramKind) (is : List NamedInstr) → may_have kind is ≡ true → list_all (may_stand (is_of_routine kind)) is ≡ true
each_stands ProgramKind.Task is e = none_returns is e
each_stands ProgramKind.Routine is e = any_returns is

same_kind : (a b : ProgramKind) → is_kind a b ≡ true → a ≡ b
same_kind ProgramKind.Task ProgramKind.Task e = refl
same_kind ProgramKind.Task ProgramKind.Routine e = absurd (false≢true e)
same_kind ProgramKind.Routine ProgramKind.Task e = absurd (false≢true e)
same_kind ProgramKind.Routine ProgramKind.Routine e = refl

-- what generation has checked of a program
pub record IsChecked (f : Configuration) (k : Known) (p : Program) : Type 0 where
  pub references : program_reference f k.declared p ≡ None
  pub closed : is_closed p ≡ true
  pub returns : returns_well p ≡ true
  pub typed : list_all is_typed p.instructions ≡ true

module _ (f : Configuration) (k : Known) (S : System) (known : AreKnown f k S) where
  pub program_proper : (p : Program) → IsChecked f k p → is_proper_program S (is_of_routine p.kind) (resolved_program k p.instructions) ≡ true
  unfolding is_closed
  program_proper p checked =
      let is = p.instructions in
      let short = and_parts (ends_well p && list_all (jumps_below (length is)) is) (nat_le (length is) MAX_INSTRUCTIONS) checked.closed in
      let ends = and_parts (ends_well p) (list_all (jumps_below (length is)) is) short.0 in
      let names = none_of (owner_reference k.declared p.kind p.name) (first_of (instruction_reference f k.declared) is) checked.references in
      let same : length (resolved_program k is) ≡ length is = length-map is (resolved_instruction k) in
      let each = each_proper f k S known (is_of_routine p.kind) (length is) is ends.1 checked.typed names.1 (each_stands p.kind is checked.returns) in
      and_from _ _
      (and_from _ _
      (subst (λ (n : ℕ). list_all (is_proper_instruction S (is_of_routine p.kind) n) (resolved_program k is) ≡ true) (sym same) each)
      (subst (λ (n : ℕ). option_map_or is_end_instruction (slice_get (resolved_program k is) (n - 1)) false ≡ true) (sym same) (end_at k is (length is - 1) ∙ ends.0)))
      (subst (λ (n : ℕ). nat_le n MAX_INSTRUCTIONS ≡ true) (sym same) short.1)

  -- the program of a task or routine that has one
  pub program_for_proper : (kind : ProgramKind) (name : List ℕ) (programs : List Program) → AllByRecursion (IsChecked f k) programs
      → list_any (is_program_of kind name) programs ≡ true → is_proper_program S (is_of_routine kind) (program_for k kind name programs) ≡ true
  program_for_proper kind name programs all has =
      let w = found (is_program_of kind name) (IsChecked f k) programs all has in
      let p : Program = w.0 in
      let same : p.kind ≡ kind = same_kind p.kind kind (and_parts _ _ w.2).0 in
      subst (λ (o : Option Program). is_proper_program S (is_of_routine kind) (option_map_or (λ q. resolved_program k q.instructions) o []) ≡ true) (sym w.1)
      (subst (λ (a : ProgramKind). is_proper_program S (is_of_routine a) (resolved_program k p.instructions) ≡ true) same (program_proper p w.3))

  -- ---- all programs of a file that passes

  pub each_checked : (programs : List Program) → first_of (program_reference f k.declared) programs ≡ None → list_all is_closed programs ≡ true
      → list_all returns_well programs ≡ true → are_typed programs ≡ true → AllByRecursion (IsChecked f k) programs
  each_checked [] e c r t = tt
  each_checked (p ∷ programs) e c r t =
      let names = none_of (program_reference f k.declared p) (first_of (program_reference f k.declared) programs) e in
      let closed = and_parts (is_closed p) (list_all is_closed programs) c in
      let returns = and_parts (returns_well p) (list_all returns_well programs) r in
      let typed = and_parts (list_all is_typed p.instructions) (are_typed programs) t in
      (record { references = names.0; closed = closed.0; returns = returns.0; typed = typed.0 }, each_checked programs names.1 closed.1 returns.1 typed.1)

  module _ (programs : List Program) (all : AllByRecursion (IsChecked f k) programs) where
    pub task_programs : (tasks : List TaskRecord) → list_all (has_task_program programs) tasks ≡ true
        → AllByRecursion (λ t. is_proper_program S false (program_for k ProgramKind.Task t.name programs) ≡ true) tasks
    task_programs [] h = tt
    task_programs (t ∷ tasks) h =
        let has = and_parts (has_task_program programs t) (list_all (has_task_program programs) tasks) h in
        (program_for_proper ProgramKind.Task t.name programs all has.0, task_programs tasks has.1)

    routine_proper : (i : IsrRecord) → is_checked_isr i ≡ true → has_routine_program programs i ≡ true → is_proper_routine S (resolved_routine k programs i) ≡ true
    routine_proper i checked has =
        let low : nat_le i.priority MAX_ROUTINE_PRIORITY ≡ true = (and_parts (is_object_name kind.Isr i.name) (nat_le i.priority MAX_ROUTINE_PRIORITY) checked).1 in
        and_from _ _ low (program_for_proper ProgramKind.Routine i.name programs all has)

    pub routines : (is : List IsrRecord) → list_all is_checked_isr is ≡ true → list_all (has_routine_program programs) is ≡ true
        → list_all (is_proper_routine S) (map (resolved_routine k programs) is) ≡ true
    routines [] c h = refl
    routines (i ∷ is) c h =
        let checked = and_parts (is_checked_isr i) (list_all is_checked_isr is) c in
        let has = and_parts (has_routine_program programs i) (list_all (has_routine_program programs) is) h in
        and_from _ _ (routine_proper i checked.0 has.0) (routines is checked.1 has.1)

-- What the programs of a proper and separable system consist of.
use Rattle.std.proofs.Common.{◌≡◌, ℕ, zero, suc, ◌<◌, ◌≤◌, ◌⊎◌, Bool, true, false, List, [], ◌∷◌, length, refl, sym, ap, subst, inl, inr, arith}
use Rattle.std.specs.Prelude.{Some, None, slice_get}
use Rattle.std.specs.List.{list_all}
use Rattle.std.proofs.lemmas.Bool.{cases_lt, and_parts}
use Rattle.std.proofs.lemmas.List.{get_or_past}
use Rattle.osek_base.specs.declared.ids.ResId.{ResId}
use Rattle.osek_base.specs.declared.ids.Owner.{Owner}
use Rattle.osek_base.specs.declared.instr.Service.{Service}
use Rattle.osek_base.specs.Types.{ServiceCall}
use Rattle.osek_base.specs.declared.instr.Control.{Control}
use Rattle.osek_base.specs.declared.instr.Plain.{Plain}
use Rattle.osek_base.specs.declared.instr.Instr.{Instr}
use Rattle.osek_base.specs.System.{System, Routine, task, routine, no_task, no_routine, program, instruction_in, instruction_at}
use Rattle.osek_base.specs.Upper.{is_upper_task, service_names, named_object}
use Rattle.osek_base.specs.Separable.{Separable, names_scheduler, names_upper, is_reserved, asks_task_id}
use Rattle.osek_base.specs.Proper.{IsProper, is_proper_task, is_proper_routine, is_proper_program, is_proper_instruction, is_proper_service}
use Rattle.partition_check.proofs.Falling.{all_at}
use Rattle.partition_check.proofs.CoreFacts.{true_lt, each_task}
use Rattle.partition_check.proofs.Ranks.{clash}
use Rattle.partition_check.proofs.TextUp.{IsUpperInstr}
use Rattle.partition_check.proofs.Shared.{IsKnownObject}

-- ---- an instruction of a program, or NOP behind its end

at_program : (all : List Instr) (place : ℕ)
    → (slice_get all place ≡ Some (instruction_in all place)) ⊎ (instruction_in all place ≡ Instr.Plain Plain.Nop)
at_program [] place = inr refl
at_program (x ∷ all) zero = inl refl
at_program (x ∷ all) (suc place) = at_program all place

-- what holds of each instruction and of NOP
pub each_instruction : (P : Instr → Type 0) (all : List Instr) (place : ℕ) → P (Instr.Plain Plain.Nop)
    → ((x : Instr) → slice_get all place ≡ Some x → P x) → P (instruction_in all place)
each_instruction P all place nop each = go (at_program all place)
  where
    go : (slice_get all place ≡ Some (instruction_in all place)) ⊎ (instruction_in all place ≡ Instr.Plain Plain.Nop) → P (instruction_in all place)
    go (inl e) = each (instruction_in all place) e
    go (inr e) = subst P (sym e) nop

pub all_get : {X : Type 0} (test : X → Bool) (xs : List X) (i : ℕ) (x : X) → list_all test xs ≡ true → slice_get xs i ≡ Some x → test x ≡ true
all_get test [] i x all h = absurd (grind arith)
all_get test (y ∷ xs) zero x all h =
    let same : y ≡ x = grind arith in
    subst (λ z. test z ≡ true) same (and_parts (test y) (list_all test xs) all).0
all_get test (y ∷ xs) (suc i) x all h = all_get test xs i x (and_parts (test y) (list_all test xs) all).1 h

-- ---- operands exist

proper_known : (S : System) (call : ServiceCall) → is_proper_service S call ≡ true → IsKnownObject S (service_names call)
proper_known S (Service.ActivateTask None) h = tt
proper_known S (Service.ActivateTask (Some t)) h = true_lt t (length S.tasks) h
proper_known S Service.TerminateTask h = tt
proper_known S (Service.ChainTask None) h = tt
proper_known S (Service.ChainTask (Some t)) h = true_lt t (length S.tasks) h
proper_known S Service.Schedule h = tt
proper_known S Service.GetTaskId h = tt
proper_known S (Service.GetTaskState None) h = tt
proper_known S (Service.GetTaskState (Some t)) h = true_lt t (length S.tasks) h
proper_known S (Service.GetResource None) h = tt
proper_known S (Service.GetResource (Some (ResId.Declared r))) h = true_lt r (length S.resources) (and_parts _ _ h).0
proper_known S (Service.GetResource (Some ResId.Scheduler)) h = tt
proper_known S (Service.ReleaseResource None) h = tt
proper_known S (Service.ReleaseResource (Some (ResId.Declared r))) h = true_lt r (length S.resources) (and_parts _ _ h).0
proper_known S (Service.ReleaseResource (Some ResId.Scheduler)) h = tt
proper_known S (Service.LoadShared None x) h = tt
proper_known S (Service.LoadShared (Some (ResId.Declared r)) x) h =
    true_lt r (length S.resources) (and_parts _ _ (and_parts _ _ h).0).0
proper_known S (Service.LoadShared (Some ResId.Scheduler) x) h = tt
proper_known S (Service.StoreShared None x y) h = tt
proper_known S (Service.StoreShared (Some (ResId.Declared r)) x y) h =
    true_lt r (length S.resources) (and_parts _ _ (and_parts _ _ (and_parts _ _ h).0).0).0
proper_known S (Service.StoreShared (Some ResId.Scheduler) x y) h = tt
proper_known S (Service.SetEvent None m) h = tt
proper_known S (Service.SetEvent (Some t) m) h = true_lt t (length S.tasks) (and_parts _ _ h).0
proper_known S (Service.ClearEvent m) h = tt
proper_known S (Service.GetEvent None) h = tt
proper_known S (Service.GetEvent (Some t)) h = true_lt t (length S.tasks) h
proper_known S (Service.WaitEvent m) h = tt
proper_known S (Service.SetRelAlarm None x y) h = tt
proper_known S (Service.SetRelAlarm (Some a) x y) h = true_lt a (length S.alarms) (and_parts _ _ (and_parts _ _ h).0).0
proper_known S (Service.SetAbsAlarm None x y) h = tt
proper_known S (Service.SetAbsAlarm (Some a) x y) h = true_lt a (length S.alarms) (and_parts _ _ (and_parts _ _ h).0).0
proper_known S (Service.CancelAlarm None) h = tt
proper_known S (Service.CancelAlarm (Some a)) h = true_lt a (length S.alarms) h
proper_known S (Service.GetAlarm None) h = tt
proper_known S (Service.GetAlarm (Some a)) h = true_lt a (length S.alarms) h
proper_known S (Service.GetAlarmBase None) h = tt
proper_known S (Service.GetAlarmBase (Some a)) h = true_lt a (length S.alarms) h

pub instruction_known : (S : System) (in_routine : Bool) (size : ℕ) (x : Instr) → is_proper_instruction S in_routine size x ≡ true → IsKnownObject S (named_object x)
instruction_known S in_routine size (Instr.Plain x) h = tt
instruction_known S in_routine size (Instr.Service call) h = proper_known S call h
instruction_known S in_routine size (Instr.Control x) h = tt

-- of a task's control instructions all are reserved for the upper part
all_reserved : (S : System) (size : ℕ) (x : Control ℕ) → is_proper_instruction S false size (Instr.Control x) ≡ true → is_reserved (Instr.Control x) ≡ false → ⊥
all_reserved S size Control.ReturnFromInterrupt h e = clash (sym h)
all_reserved S size _ h e = clash e

-- an instruction of the lower part
pub record IsLowerInstr (S : System) (p : ℕ) (what : Instr) : Type 0 where
  pub known : IsKnownObject S (named_object what)
  pub names : names_upper S p what ≡ false
  pub no_scheduler : names_scheduler what ≡ false
  pub no_control : (x : Control ℕ) → what ≡ Instr.Control x → ⊥

module _ (S : System) (p : ℕ) (proper : IsProper S) (separable : Separable S p) where
  pub each_routine : list_all (is_proper_routine S) S.routines ≡ true
  each_routine = (and_parts _ _ (and_parts _ _ (and_parts _ _ (and_parts _ _ proper.objects).0).0).0).1

  task_program : (t place : ℕ) (x : Instr) → t < length S.tasks → slice_get (program S (Owner.Task t)) place ≡ Some x
      → is_proper_instruction S false (length (task S t).program) x ≡ true
  task_program t place x inside e =
      let here : is_proper_task S (task S t) ≡ true = all_at (is_proper_task S) S.tasks t no_task (each_task S p proper) inside in
      let whole : is_proper_program S false (task S t).program ≡ true = (and_parts _ _ here).1 in
      all_get (is_proper_instruction S false (length (task S t).program)) (task S t).program place x (and_parts _ _ (and_parts _ _ whole).0).0 e

  routine_program : (i place : ℕ) (x : Instr) → i < length S.routines → slice_get (program S (Owner.Routine i)) place ≡ Some x
      → is_proper_instruction S true (length (routine S i).program) x ≡ true
  routine_program i place x inside e =
      let here : is_proper_routine S (routine S i) ≡ true = all_at (is_proper_routine S) S.routines i no_routine each_routine inside in
      let whole : is_proper_program S true (routine S i).program ≡ true = (and_parts _ _ here).1 in
      all_get (is_proper_instruction S true (length (routine S i).program)) (routine S i).program place x (and_parts _ _ (and_parts _ _ whole).0).0 e

  -- ---- upper programs

  pub upper_task_instr : (t place : ℕ) → t < length S.tasks → is_upper_task S p t ≡ true → IsUpperInstr S p (instruction_at S (Owner.Task t) place)
  upper_task_instr t place inside high =
      each_instruction (IsUpperInstr S p) (program S (Owner.Task t)) place (record { known = tt; names = refl })
      (λ x e. record {
        known = instruction_known S false (length (task S t).program) x (task_program t place x inside e);
        names = separable.upper_names (Owner.Task t) inside high place x e;
      })

  -- a number of no routine has no program
  no_program : (i : ℕ) → length S.routines ≤ i → program S (Owner.Routine i) ≡ []
  no_program i past = ap (λ (a : Routine). a.program) (get_or_past S.routines i no_routine past)

  routine_each : (P : Instr → Type 0) (i place : ℕ) → P (Instr.Plain Plain.Nop)
      → ((x : Instr) → i < length S.routines → slice_get (program S (Owner.Routine i)) place ≡ Some x → P x) → P (instruction_at S (Owner.Routine i) place)
  routine_each P i place nop each = go (cases_lt i (length S.routines))
    where
      go : (i < length S.routines) ⊎ (length S.routines ≤ i) → P (instruction_at S (Owner.Routine i) place)
      go (inl inside) = each_instruction P (program S (Owner.Routine i)) place nop (λ x e. each x inside e)
      go (inr past) = subst (λ all. P (instruction_in all place)) (sym (no_program i past)) nop

  pub routine_instr : (i place : ℕ) → IsUpperInstr S p (instruction_at S (Owner.Routine i) place)
  routine_instr i place =
      routine_each (IsUpperInstr S p) i place (record { known = tt; names = refl })
      (λ x inside e. record {
        known = instruction_known S true (length (routine S i).program) x (routine_program i place x inside e);
        names = separable.upper_names (Owner.Routine i) inside refl place x e;
      })

  pub routine_asks_not : (i place : ℕ) → asks_task_id (instruction_at S (Owner.Routine i) place) ≡ false
  routine_asks_not i place =
      routine_each (λ x. asks_task_id x ≡ false) i place refl (λ x inside e. separable.no_task_id i inside place x e)

  -- ---- lower programs

  pub lower_instr : (t place : ℕ) → t < length S.tasks → is_upper_task S p t ≡ false → IsLowerInstr S p (instruction_at S (Owner.Task t) place)
  lower_instr t place inside low =
      each_instruction (IsLowerInstr S p) (program S (Owner.Task t)) place
      (record { known = tt; names = refl; no_scheduler = refl; no_control = λ x e. absurd (grind arith) })
      (λ x e. record {
        known = instruction_known S false (length (task S t).program) x (task_program t place x inside e);
        names = separable.lower_names t (inside, low) place x e;
        no_scheduler = separable.no_scheduler t (inside, low) place x e;
        no_control = λ c is.
            all_reserved S (length (task S t).program) c
            (subst (λ y. is_proper_instruction S false (length (task S t).program) y ≡ true) is (task_program t place x inside e))
            (subst (λ y. is_reserved y ≡ false) is (separable.no_control t (inside, low) place x e));
      })

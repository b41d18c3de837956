-- The programs of the upper part: what is proper stays proper under new numbers.
use Rattle.std.proofs.Common.{◌≡◌, ℕ, zero, suc, ◌-◌, ◌<◌, Bool, true, false, not, ◌&&◌, nat_lt, nat_le, List, [], ◌∷◌, map, length, refl, sym, ◌∙◌, ap, arith}
use Rattle.std.specs.Prelude.{Some, None, slice_get, slice_index_or}
use Rattle.std.specs.List.{list_all}
use Rattle.std.specs.Option.{option_map_or}
use Rattle.std.proofs.lemmas.List.{length-map}
use Rattle.osek_base.specs.Types.{ServiceCall}
use Rattle.osek_base.specs.declared.limits.TheConstants.{MAX_INSTRUCTIONS}
use Rattle.osek_base.specs.declared.ids.ResId.{ResId}
use Rattle.osek_base.specs.declared.ids.Owner.{Owner}
use Rattle.osek_base.specs.declared.instr.Service.{Service}
use Rattle.osek_base.specs.declared.instr.Instr.{Instr}
use Rattle.osek_base.specs.System.{System, Routine, no_routine}
use Rattle.osek_base.specs.Ceiling.{is_internal}
use Rattle.osek_base.specs.Upper.{is_upper_task, is_upper_alarm}
use Rattle.osek_base.specs.Agree.{rank, is_upper_declared, renumbered, renumbered_service, upper_routine, upper_part}
use Rattle.osek_base.specs.Proper.{IsProper, is_proper_service, is_proper_instruction, is_proper_program, is_end_instruction, ends_well, is_proper_routine}
use Rattle.osek_base.specs.Separable.{Separable, names_lower}
use Rattle.partition_check.proofs.Ranks.{rank_less}
use Rattle.partition_check.proofs.CoreFacts.{lt_true, true_lt, split, task_count, internal_same}
use Rattle.partition_check.proofs.ProgramFacts.{each_routine}
use Rattle.std.proofs.lemmas.Bool.{and_parts, and_from, not-false}

end_same : (S : System) (p : ℕ) (x : Instr) → is_end_instruction (renumbered S p x) ≡ is_end_instruction x
end_same S p (Instr.Plain x) = refl
end_same S p (Instr.Service call) = refl
end_same S p (Instr.Control x) = refl

end_at : (S : System) (p : ℕ) (xs : List Instr) (i : ℕ)
    → option_map_or is_end_instruction (slice_get (map (renumbered S p) xs) i) false ≡ option_map_or is_end_instruction (slice_get xs i) false
end_at S p [] i = refl
end_at S p (x ∷ xs) zero = end_same S p x
end_at S p (x ∷ xs) (suc i) = end_at S p xs i

ends_same : (S : System) (p : ℕ) (xs : List Instr) → ends_well (map (renumbered S p) xs) ≡ ends_well xs
ends_same S p xs =
    ap (λ n. option_map_or is_end_instruction (slice_get (map (renumbered S p) xs) (n - 1)) false) (length-map xs (renumbered S p))
    ∙ end_at S p xs (length xs - 1)

module _ (S : System) (p : ℕ) (proper : IsProper S) where
  -- ---- new numbers are within the upper part

  pub task_new : (t : ℕ) → nat_lt t (length S.tasks) ≡ true → is_upper_task S p t ≡ true → nat_lt t (length (upper_part S p).tasks) ≡ true
  task_new t inside high =
      ap (nat_lt t) (task_count S p proper) ∙ sym (split S p proper t (true_lt t (length S.tasks) inside)) ∙ high

  pub resource_new : (r : ℕ) → nat_lt r (length S.resources) ≡ true → is_upper_declared S p r ≡ true
      → nat_lt (rank (is_upper_declared S p) r) (length (upper_part S p).resources) ≡ true
  resource_new r inside high =
      ap (nat_lt (rank (is_upper_declared S p) r)) (length-map _ _)
      ∙ lt_true (rank (is_upper_declared S p) r) (rank (is_upper_declared S p) (length S.resources))
      (rank_less (is_upper_declared S p) r (length S.resources) (true_lt r (length S.resources) inside) high)

  pub alarm_new : (a : ℕ) → nat_lt a (length S.alarms) ≡ true → is_upper_alarm S p a ≡ true
      → nat_lt (rank (is_upper_alarm S p) a) (length (upper_part S p).alarms) ≡ true
  alarm_new a inside high =
      ap (nat_lt (rank (is_upper_alarm S p) a)) (length-map _ _)
      ∙ lt_true (rank (is_upper_alarm S p) a) (rank (is_upper_alarm S p) (length S.alarms))
      (rank_less (is_upper_alarm S p) a (length S.alarms) (true_lt a (length S.alarms) inside) high)

  got_new : (r : ℕ) → (nat_lt r (length S.resources) && not (is_internal S r)) ≡ true → is_upper_declared S p r ≡ true
      → (nat_lt (rank (is_upper_declared S p) r) (length (upper_part S p).resources) && not (is_internal (upper_part S p) (rank (is_upper_declared S p) r))) ≡ true
  got_new r h high =
      let both = and_parts (nat_lt r (length S.resources)) (not (is_internal S r)) h in
      and_from _ _ (resource_new r both.0 high)
      (ap not (internal_same S p proper r (true_lt r (length S.resources) both.0) high) ∙ both.1)

  -- ---- instructions

  service_new : (call : ServiceCall) → is_proper_service S call ≡ true → names_lower S p (Instr.Service call) ≡ false
      → is_proper_service (upper_part S p) (renumbered_service S p call) ≡ true
  service_new (Service.ActivateTask None) h e = refl
  service_new (Service.ActivateTask (Some t)) h e = task_new t h (not-false _ e)
  service_new Service.TerminateTask h e = refl
  service_new (Service.ChainTask None) h e = refl
  service_new (Service.ChainTask (Some t)) h e = task_new t h (not-false _ e)
  service_new Service.Schedule h e = refl
  service_new Service.GetTaskId h e = refl
  service_new (Service.GetTaskState None) h e = refl
  service_new (Service.GetTaskState (Some t)) h e = task_new t h (not-false _ e)
  service_new (Service.GetResource None) h e = refl
  service_new (Service.GetResource (Some (ResId.Declared r))) h e = got_new r h (not-false _ e)
  service_new (Service.GetResource (Some ResId.Scheduler)) h e = h
  service_new (Service.ReleaseResource None) h e = refl
  service_new (Service.ReleaseResource (Some (ResId.Declared r))) h e = got_new r h (not-false _ e)
  service_new (Service.ReleaseResource (Some ResId.Scheduler)) h e = h
  service_new (Service.LoadShared None x) h e = h
  service_new (Service.LoadShared (Some (ResId.Declared r)) x) h e =
      let both = and_parts _ _ h in and_from _ _ (got_new r both.0 (not-false _ e)) both.1
  service_new (Service.LoadShared (Some ResId.Scheduler) x) h e = h
  service_new (Service.StoreShared None x y) h e = h
  service_new (Service.StoreShared (Some (ResId.Declared r)) x y) h e =
      let both = and_parts _ _ h in
      let front = and_parts _ _ both.0 in
      and_from _ _ (and_from _ _ (got_new r front.0 (not-false _ e)) front.1) both.1
  service_new (Service.StoreShared (Some ResId.Scheduler) x y) h e = h
  service_new (Service.SetEvent None m) h e = h
  service_new (Service.SetEvent (Some t) m) h e =
      let both = and_parts _ _ h in and_from _ _ (task_new t both.0 (not-false _ e)) both.1
  service_new (Service.ClearEvent m) h e = h
  service_new (Service.GetEvent None) h e = refl
  service_new (Service.GetEvent (Some t)) h e = task_new t h (not-false _ e)
  service_new (Service.WaitEvent m) h e = h
  service_new (Service.SetRelAlarm None x y) h e = h
  service_new (Service.SetRelAlarm (Some a) x y) h e =
      let both = and_parts _ _ h in
      let front = and_parts _ _ both.0 in
      and_from _ _ (and_from _ _ (alarm_new a front.0 (not-false _ e)) front.1) both.1
  service_new (Service.SetAbsAlarm None x y) h e = h
  service_new (Service.SetAbsAlarm (Some a) x y) h e =
      let both = and_parts _ _ h in
      let front = and_parts _ _ both.0 in
      and_from _ _ (and_from _ _ (alarm_new a front.0 (not-false _ e)) front.1) both.1
  service_new (Service.CancelAlarm None) h e = refl
  service_new (Service.CancelAlarm (Some a)) h e = alarm_new a h (not-false _ e)
  service_new (Service.GetAlarm None) h e = refl
  service_new (Service.GetAlarm (Some a)) h e = alarm_new a h (not-false _ e)
  service_new (Service.GetAlarmBase None) h e = refl
  service_new (Service.GetAlarmBase (Some a)) h e = alarm_new a h (not-false _ e)

  instr_new : (in_routine : Bool) (size : ℕ) (x : Instr) → is_proper_instruction S in_routine size x ≡ true → names_lower S p x ≡ false
      → is_proper_instruction (upper_part S p) in_routine size (renumbered S p x) ≡ true
  instr_new in_routine size (Instr.Plain x) h e = h
  instr_new in_routine size (Instr.Service call) h e = service_new call h e
  instr_new in_routine size (Instr.Control x) h e = h

  each_new : (in_routine : Bool) (size : ℕ) (xs : List Instr) → list_all (is_proper_instruction S in_routine size) xs ≡ true
      → ((place : ℕ) (x : Instr) → slice_get xs place ≡ Some x → names_lower S p x ≡ false)
      → list_all (is_proper_instruction (upper_part S p) in_routine size) (map (renumbered S p) xs) ≡ true
  each_new in_routine size [] h none = refl
  each_new in_routine size (x ∷ xs) h none =
      let both = and_parts (is_proper_instruction S in_routine size x) (list_all (is_proper_instruction S in_routine size) xs) h in
      and_from _ _ (instr_new in_routine size x both.0 (none zero x refl))
      (each_new in_routine size xs both.1 (λ place y e. none (suc place) y e))

  pub program_new : (in_routine : Bool) (xs : List Instr) → is_proper_program S in_routine xs ≡ true
      → ((place : ℕ) (x : Instr) → slice_get xs place ≡ Some x → names_lower S p x ≡ false)
      → is_proper_program (upper_part S p) in_routine (map (renumbered S p) xs) ≡ true
  program_new in_routine xs h none =
      let both = and_parts _ _ h in
      let front = and_parts _ _ both.0 in
      let size : length (map (renumbered S p) xs) ≡ length xs = length-map xs (renumbered S p) in
      and_from _ _
      (and_from _ _
      (ap (λ n. list_all (is_proper_instruction (upper_part S p) in_routine n) (map (renumbered S p) xs)) size
      ∙ each_new in_routine (length xs) xs front.0 none)
      (ends_same S p xs ∙ front.1))
      (ap (λ n. nat_le n MAX_INSTRUCTIONS) size ∙ both.1)

  -- ---- routines

  routines_each : (all : List Routine) → list_all (is_proper_routine S) all ≡ true
      → ((i place : ℕ) (x : Instr) → i < length all → slice_get (slice_index_or all i no_routine).program place ≡ Some x → names_lower S p x ≡ false)
      → list_all (is_proper_routine (upper_part S p)) (map (upper_routine S p) all) ≡ true
  routines_each [] h none = refl
  routines_each (a ∷ all) h none =
      let both = and_parts (is_proper_routine S a) (list_all (is_proper_routine S) all) h in
      let here = and_parts _ _ both.0 in
      and_from _ _ (and_from _ _ here.0 (program_new true a.program here.1 (λ place x e. none zero place x (omega arith) e)))
      (routines_each all both.1 (λ i place x less e. none (suc i) place x (omega (arith, less)) e))

  pub routines_new : Separable S p → list_all (is_proper_routine (upper_part S p)) (upper_part S p).routines ≡ true
  routines_new separable =
      routines_each S.routines (each_routine S p proper separable)
      (λ i place x inside e. separable.upper_names (Owner.Routine i) inside refl place x e)

-- What an upper owner executes reads the same in the upper core.
use Rattle.std.proofs.Common.{◌≡◌, ℕ, ◌<◌, true, false, cond, List, [], ◌∷◌, ◌++◌, map, length, refl, sym, ap, ap₂}
use Rattle.std.specs.Prelude.{Option, Some, None, decimal, codes}
use Rattle.std.specs.List.{cons_option}
use Rattle.osek_base.specs.declared.ids.ResId.{ResId}
use Rattle.osek_base.specs.declared.ids.Owner.{Owner}
use Rattle.osek_base.specs.declared.instr.Service.{Service}
use Rattle.osek_base.specs.Types.{ServiceCall}
use Rattle.osek_base.specs.declared.instr.Instr.{Instr}
use Rattle.osek_base.specs.declared.status.Status.{Status}
use Rattle.osek_base.specs.declared.trace_event.Outcome.{Outcome}
use Rattle.osek_base.specs.declared.trace_event.Source.{Source}
use Rattle.osek_base.specs.declared.trace_event.TraceEvent.{TraceEvent}
use Rattle.osek_base.specs.Names.{owner_name}
use Rattle.osek_base.specs.System.{System}
use Rattle.osek_base.specs.Upper.{is_upper_owner, named_object}
use Rattle.osek_base.specs.Separable.{names_lower}
use Rattle.osek_base.specs.Agree.{renumbered, renumbered_service, renumbered_operand, renumbered_alarm, upper_core}
use Rattle.osek_base.specs.Tick.{error_record, status_number}
use Rattle.osek_base.specs.Text.{line, task_text, resource_text, alarm_text, register_text, mask_text, written, instruction_text, outcome_text}
use Rattle.partition_check.proofs.PriorityUp.{first_tasks}
use Rattle.partition_check.proofs.RefusalsUp.{upper_task_named, upper_alarm_named, visible_named}
use Rattle.partition_check.proofs.Dispatch.{still_upper, lines_none, lines_one, lines_hidden, hooked_one, hooked_hidden}
use Rattle.partition_check.proofs.Shared.{IsCounterpart, IsKnownObject, SameLines}

-- the owner is a routine, or a task of the system
abbrev pub IsSeen : System → Owner → Type 0
IsSeen S (Owner.Task t) = t < length S.tasks
IsSeen S (Owner.Routine i) = Unit {0}

-- an instruction names nothing lower, and what it names exists
pub record IsUpperInstr (S : System) (p : ℕ) (what : Instr) : Type 0 where
  pub known : IsKnownObject S (named_object what)
  pub names : names_lower S p what ≡ false

module _ (S : System) (p : ℕ) (both : IsCounterpart S p) where
  -- ---- operands

  task_same : (o : Option ℕ) → IsUpperInstr S p (Instr.Service (Service.ActivateTask o))
      → task_text (upper_core S p).names o ≡ task_text S.names o
  task_same None upper = refl
  task_same (Some t) upper = both.task_names t (first_tasks S p both t upper.known (upper_task_named S p t upper.names))

  resource_same : (o : Option ResId) → IsUpperInstr S p (Instr.Service (Service.GetResource o))
      → resource_text (upper_core S p).names (renumbered_operand S p o) ≡ resource_text S.names o
  resource_same None upper = refl
  resource_same (Some (ResId.Declared r)) upper = both.resource_names r upper.known (visible_named S p (ResId.Declared r) upper.names)
  resource_same (Some ResId.Scheduler) upper = refl

  alarm_same : (o : Option ℕ) → IsUpperInstr S p (Instr.Service (Service.CancelAlarm o))
      → alarm_text (upper_core S p).names (renumbered_alarm S p o) ≡ alarm_text S.names o
  alarm_same None upper = refl
  alarm_same (Some a) upper = both.alarm_names a upper.known (upper_alarm_named S p a upper.names)

  -- ---- instructions

  service_same : (call : ServiceCall) → IsUpperInstr S p (Instr.Service call)
      → instruction_text (upper_core S p).names (Instr.Service (renumbered_service S p call)) ≡ instruction_text S.names (Instr.Service call)
  service_same (Service.ActivateTask t) upper = ap (λ (x : List ℕ). written (codes "ACT") (x ∷ [])) (task_same t (record { known = upper.known; names = upper.names }))
  service_same Service.TerminateTask upper = refl
  service_same (Service.ChainTask t) upper = ap (λ (x : List ℕ). written (codes "CHAIN") (x ∷ [])) (task_same t (record { known = upper.known; names = upper.names }))
  service_same Service.Schedule upper = refl
  service_same Service.GetTaskId upper = refl
  service_same (Service.GetTaskState t) upper = ap (λ (x : List ℕ). written (codes "GTST") (x ∷ [])) (task_same t (record { known = upper.known; names = upper.names }))
  service_same (Service.GetResource r) upper = ap (λ (x : List ℕ). written (codes "GETR") (x ∷ [])) (resource_same r (record { known = upper.known; names = upper.names }))
  service_same (Service.ReleaseResource r) upper = ap (λ (x : List ℕ). written (codes "RELR") (x ∷ [])) (resource_same r (record { known = upper.known; names = upper.names }))
  service_same (Service.LoadShared r x) upper =
      ap (λ (z : List ℕ). written (codes "LDR") (z ∷ register_text x ∷ []))
      (resource_same r (record { known = upper.known; names = upper.names }))
  service_same (Service.StoreShared r x y) upper =
      ap (λ (z : List ℕ). written (codes "STR") (z ∷ register_text x ∷ register_text y ∷ []))
      (resource_same r (record { known = upper.known; names = upper.names }))
  service_same (Service.SetEvent t m) upper = ap (λ (x : List ℕ). written (codes "SETE") (x ∷ mask_text m ∷ [])) (task_same t (record { known = upper.known; names = upper.names }))
  service_same (Service.ClearEvent m) upper = refl
  service_same (Service.GetEvent t) upper = ap (λ (x : List ℕ). written (codes "GETE") (x ∷ [])) (task_same t (record { known = upper.known; names = upper.names }))
  service_same (Service.WaitEvent m) upper = refl
  service_same (Service.SetRelAlarm a x y) upper =
      ap (λ (z : List ℕ). written (codes "SREL") (z ∷ register_text x ∷ register_text y ∷ [])) (alarm_same a (record { known = upper.known; names = upper.names }))
  service_same (Service.SetAbsAlarm a x y) upper =
      ap (λ (z : List ℕ). written (codes "SABS") (z ∷ register_text x ∷ register_text y ∷ [])) (alarm_same a (record { known = upper.known; names = upper.names }))
  service_same (Service.CancelAlarm a) upper = ap (λ (x : List ℕ). written (codes "CANA") (x ∷ [])) (alarm_same a (record { known = upper.known; names = upper.names }))
  service_same (Service.GetAlarm a) upper = ap (λ (x : List ℕ). written (codes "GALM") (x ∷ [])) (alarm_same a (record { known = upper.known; names = upper.names }))
  service_same (Service.GetAlarmBase a) upper = ap (λ (x : List ℕ). written (codes "GBAS") (x ∷ [])) (alarm_same a (record { known = upper.known; names = upper.names }))

  pub instruction_same : (what : Instr) → IsUpperInstr S p what
      → instruction_text (upper_core S p).names (renumbered S p what) ≡ instruction_text S.names what
  instruction_same (Instr.Plain x) upper = refl
  instruction_same (Instr.Service call) upper = service_same call upper
  instruction_same (Instr.Control x) upper = refl

  -- ---- owners

  pub owner_same : (who : Owner) → IsSeen S who → is_upper_owner S p who ≡ true
      → owner_name (upper_core S p).names who ≡ owner_name S.names who
  owner_same (Owner.Task t) inside high = both.task_names t (first_tasks S p both t inside high)
  owner_same (Owner.Routine i) inside high = refl

  pub owner_still : (who : Owner) → IsSeen S who → is_upper_owner S p who ≡ true → is_upper_owner (upper_core S p) p who ≡ true
  owner_still (Owner.Task t) inside high = still_upper S p both t inside high
  owner_still (Owner.Routine i) inside high = refl

  -- ---- records

  pub executed_lines : (who : Owner) (place : ℕ) (what : Instr) (outcome : Outcome) → IsSeen S who → is_upper_owner S p who ≡ true → IsUpperInstr S p what
      → SameLines S p (TraceEvent.Executed who place what outcome ∷ []) (TraceEvent.Executed who place (renumbered S p what) outcome ∷ [])
  executed_lines who place what outcome inside high upper =
      lines_one S p (TraceEvent.Executed who place what outcome) (TraceEvent.Executed who place (renumbered S p what) outcome)
      (ap (λ b. cond b (Some (TraceEvent.Executed who place what outcome)) (Some TraceEvent.Other)) high)
      (ap (λ b. cond b (Some (TraceEvent.Executed who place (renumbered S p what) outcome)) (Some TraceEvent.Other)) (owner_still who inside high))
      (λ n. ap₂ (λ name text. decimal n ++ codes " " ++ (name ++ codes " " ++ decimal place ++ codes " " ++ text ++ outcome_text outcome)) (sym (owner_same who inside high)) (sym (instruction_same what upper)))

  error_one : (who : Owner) (what : Instr) (status : Status) → IsSeen S who → is_upper_owner S p who ≡ true → IsUpperInstr S p what
      → SameLines S p (TraceEvent.Error (Source.Owner who) what status ∷ []) (TraceEvent.Error (Source.Owner who) (renumbered S p what) status ∷ [])
  error_one who what status inside high upper =
      lines_one S p (TraceEvent.Error (Source.Owner who) what status) (TraceEvent.Error (Source.Owner who) (renumbered S p what) status)
      (ap (λ b. cond b (Some (TraceEvent.Error (Source.Owner who) what status)) None) high)
      (ap (λ b. cond b (Some (TraceEvent.Error (Source.Owner who) (renumbered S p what) status)) None) (owner_still who inside high))
      (λ n. ap₂ (λ name text. decimal n ++ codes " " ++ (codes "error " ++ name ++ codes " " ++ text ++ codes " " ++ decimal (status_number status))) (sym (owner_same who inside high)) (sym (instruction_same what upper)))

  pub error_lines : (who : Owner) (what : Instr) (status : Status) → IsSeen S who → is_upper_owner S p who ≡ true → IsUpperInstr S p what
      → SameLines S p (error_record S (Source.Owner who) what status) (error_record (upper_core S p) (Source.Owner who) (renumbered S p what) status)
  error_lines who what Status.Ok inside high upper = lines_none S p
  error_lines who what status inside high upper =
      hooked_one S p S.hooks.error (TraceEvent.Error (Source.Owner who) what status) (TraceEvent.Error (Source.Owner who) (renumbered S p what) status)
      (error_one who what status inside high upper)

  pub error_unseen : (who : Owner) (what : Instr) (status : Status) → is_upper_owner S p who ≡ false
      → SameLines S p (error_record S (Source.Owner who) what status) []
  error_unseen who what Status.Ok low = lines_none S p
  error_unseen who what status low =
      hooked_hidden S p S.hooks.error (TraceEvent.Error (Source.Owner who) what status)
      (lines_hidden S p (TraceEvent.Error (Source.Owner who) what status)
      (ap (λ b. cond b (Some (TraceEvent.Error (Source.Owner who) what status)) None) low))

  -- a lower instruction looks as if nobody executed
  pub other_lines : (who : Owner) (place : ℕ) (what : Instr) (outcome : Outcome) → is_upper_owner S p who ≡ false
      → SameLines S p (TraceEvent.Executed who place what outcome ∷ []) (TraceEvent.Idle ∷ [])
  other_lines who place what outcome low n =
      ap (λ b. map (line S.names n) (cons_option (cond b (Some (TraceEvent.Executed who place what outcome)) (Some TraceEvent.Other)) [])) low

  pub idle_lines : SameLines S p (TraceEvent.Idle ∷ []) (TraceEvent.Idle ∷ [])
  idle_lines n = refl

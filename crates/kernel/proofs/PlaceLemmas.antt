-- What an instruction at a place needs, and where it leads.
use Rattle.std.proofs.Common.{◌≡◌, ℕ, ◌+◌, ◌<◌, ◌≤◌, ◌⊎◌, inl, inr, Bool, true, false, length, cond, sym, ◌∙◌, ap, refl, arith}
use Rattle.std.specs.Prelude.{Some, None}
use Rattle.std.proofs.lemmas.Bool.{ltb-true, cases_lt}
use Rattle.std.proofs.lemmas.List.{get_or_past}
use Rattle.osek_base.specs.declared.ids.Owner.{Owner}
use Rattle.osek_base.specs.declared.ids.ResId.{ResId}
use Rattle.osek_base.specs.declared.instr.Instr.{Instr}
use Rattle.osek_base.specs.declared.instr.Plain.{Plain}
use Rattle.osek_base.specs.declared.instr.Control.{Control}
use Rattle.osek_base.specs.declared.instr.Service.{Service}
use Rattle.osek_base.specs.Types.{ServiceCall, PlainInstr}
use Rattle.osek_base.specs.System.{System, program, instruction_at, Task, Routine, no_task, no_routine}
use Rattle.osek_base.specs.Instruction.{Context, plain, next}
use Rattle.osek_base.specs.Proper.{is_proper_service, is_proper_instruction, is_end_instruction, IsProper}
use Rattle.osek_base.specs.declared.status.Status.{Status}
use Rattle.osek_base.specs.declared.trace_event.Results.{Results}
use Rattle.osek_base.specs.Tick.{at_values, answered}
use Rattle.machine.specs.Execution.{HasNext}
use Rattle.services.specs.Calls.{IsKnown}
use Rattle.osek_base.proofs.PlaceLemmas.{KnownPlace, and_split, is_routine, known_place}
use Rattle.osek_base.specs.Separable.{IsOwner}
use Rattle.law_runs.proofs.Formed.{IsPlaced}
use Rattle.law_runs.proofs.FormedTick.{next_placed, plain_placed, answered_placed}
use Rattle.kernel.specs.Controls.{ends_routine}

module _ (S : System) (owner : Owner) (x : Context) (k : KnownPlace S owner x.place) where
  -- behind an instruction that is no end there is one more
  follows : (i : Instr) → instruction_at S owner x.place ≡ i → is_end_instruction i ≡ false → x.place + 1 < length (program S owner)
  follows i e no_end = k.next (ap is_end_instruction e ∙ no_end)

  proper_one : (i : Instr) → instruction_at S owner x.place ≡ i
      → is_proper_instruction S (is_routine owner) (length (program S owner)) i ≡ true
  proper_one i e = sym (ap (is_proper_instruction S (is_routine owner) (length (program S owner))) e) ∙ k.operands

  pub has_next : (p : PlainInstr) → instruction_at S owner x.place ≡ Instr.Plain p → HasNext p x
  has_next (Plain.Jmp to) e = tt
  has_next Plain.Nop e = omega (arith, follows _ e refl, k.short)
  has_next (Plain.Li d n) e = omega (arith, follows _ e refl, k.short)
  has_next (Plain.Mov d a) e = omega (arith, follows _ e refl, k.short)
  has_next (Plain.Compute o d a b) e = omega (arith, follows _ e refl, k.short)
  has_next (Plain.Ld d a) e = omega (arith, follows _ e refl, k.short)
  has_next (Plain.St a b) e = omega (arith, follows _ e refl, k.short)
  has_next (Plain.JumpIf t a b to) e = omega (arith, follows _ e refl, k.short)

  -- a plain instruction leads to a place of the program
  pub plain_stays : (proper : IsProper S) (p : PlainInstr) (words : ℕ → ℕ) → instruction_at S owner x.place ≡ Instr.Plain p → IsPlaced S owner x
      → IsPlaced S owner (plain p x words).context
  plain_stays proper p words e placed =
      plain_placed S proper owner (is_routine owner) x p words placed (proper_one (Instr.Plain p) e) (follows (Instr.Plain p) e)

  pub service_stays : (proper : IsProper S) (call : ServiceCall) (status : Status) (found : Results)
      → instruction_at S owner x.place ≡ Instr.Service call → IsPlaced S owner x → IsPlaced S owner (answered status found x)
  service_stays proper call status found e placed =
      answered_placed S proper owner status found x placed (follows (Instr.Service call) e refl)

  -- behind a service there is an instruction, and the operands of the service exist
  service_next : (call : ServiceCall) → instruction_at S owner x.place ≡ Instr.Service call → x.place + 1 < length (program S owner)
  service_next call e = follows _ e refl

  pub service_short : (call : ServiceCall) → instruction_at S owner x.place ≡ Instr.Service call → x.place + 1 < 1024
  service_short call e = omega (arith, service_next call e, k.short)

  pub control_next : (control : Control ℕ) → instruction_at S owner x.place ≡ Instr.Control control → ends_routine control ≡ false
      → x.place + 1 < length (program S owner)
  control_next Control.ReturnFromInterrupt e h = absurd (let t : true ≡ false = h in cc)
  control_next Control.DisableAllInterrupts e h = follows _ e refl
  control_next Control.EnableAllInterrupts e h = follows _ e refl
  control_next Control.SuspendAllInterrupts e h = follows _ e refl
  control_next Control.ResumeAllInterrupts e h = follows _ e refl
  control_next Control.SuspendOsInterrupts e h = follows _ e refl
  control_next Control.ResumeOsInterrupts e h = follows _ e refl
  control_next (Control.ShutdownOs n) e h = follows _ e refl

  pub control_stays : (proper : IsProper S) (control : Control ℕ) → instruction_at S owner x.place ≡ Instr.Control control → IsPlaced S owner x
      → IsPlaced S owner (cond (ends_routine control) x (next x))
  control_stays proper control e placed = go (ends_routine control) refl
    where
      go : (b : Bool) → ends_routine control ≡ b → IsPlaced S owner (cond b x (next x))
      go true h = placed
      go false h = next_placed S proper owner x (next x) placed (control_next control e h) refl refl

  known_call : (call : ServiceCall) → is_proper_service S call ≡ true → IsKnown S (at_values x call)
  known_call (Service.ActivateTask None) h = tt
  known_call (Service.ActivateTask (Some t)) h = ltb-true _ _ h
  known_call Service.TerminateTask h = tt
  known_call (Service.ChainTask None) h = tt
  known_call (Service.ChainTask (Some t)) h = ltb-true _ _ h
  known_call Service.Schedule h = tt
  known_call Service.GetTaskId h = tt
  known_call (Service.GetTaskState None) h = tt
  known_call (Service.GetTaskState (Some t)) h = ltb-true _ _ h
  known_call (Service.GetResource r) h = tt
  known_call (Service.ReleaseResource r) h = tt
  known_call (Service.LoadShared None y) h = tt
  known_call (Service.LoadShared (Some (ResId.Declared r)) y) h = ltb-true _ _ (and_split _ _ (and_split _ _ h).0).0
  known_call (Service.LoadShared (Some ResId.Scheduler) y) h = tt
  known_call (Service.StoreShared None y z) h = tt
  known_call (Service.StoreShared (Some (ResId.Declared r)) y z) h =
      ltb-true _ _ (and_split _ _ (and_split _ _ (and_split _ _ h).0).0).0
  known_call (Service.StoreShared (Some ResId.Scheduler) y z) h = tt
  known_call (Service.SetEvent None m) h = tt
  known_call (Service.SetEvent (Some t) m) h = ltb-true _ _ (and_split _ _ h).0
  known_call (Service.ClearEvent m) h = tt
  known_call (Service.GetEvent None) h = tt
  known_call (Service.GetEvent (Some t)) h = ltb-true _ _ h
  known_call (Service.WaitEvent m) h = tt
  known_call (Service.SetRelAlarm None y z) h = tt
  known_call (Service.SetRelAlarm (Some a) y z) h = ltb-true _ _ (and_split _ _ (and_split _ _ h).0).0
  known_call (Service.SetAbsAlarm None y z) h = tt
  known_call (Service.SetAbsAlarm (Some a) y z) h = ltb-true _ _ (and_split _ _ (and_split _ _ h).0).0
  known_call (Service.CancelAlarm None) h = tt
  known_call (Service.CancelAlarm (Some a)) h = ltb-true _ _ h
  known_call (Service.GetAlarm None) h = tt
  known_call (Service.GetAlarm (Some a)) h = ltb-true _ _ h
  known_call (Service.GetAlarmBase None) h = tt
  known_call (Service.GetAlarmBase (Some a)) h = ltb-true _ _ h

  pub service_known : (call : ServiceCall) → instruction_at S owner x.place ≡ Instr.Service call → IsKnown S (at_values x call)
  service_known call e = known_call call (proper_one _ e)

-- who is at a place of a program is of the system
pub placed_owner : (S : System) (owner : Owner) (x : Context) → IsPlaced S owner x → IsOwner S owner
placed_owner S (Owner.Task t) x placed = go (cases_lt t (length S.tasks))
  where
    go : (t < length S.tasks) ⊎ (length S.tasks ≤ t) → IsOwner S (Owner.Task t)
    go (inl inside) = inside
    go (inr past) =
        let none : length (program S (Owner.Task t)) ≡ 0 = ap (λ (a : Task). length a.program) (get_or_past S.tasks t no_task past) in
        absurd (let low = placed.place in omega arith)
placed_owner S (Owner.Routine i) x placed = go (cases_lt i (length S.routines))
  where
    go : (i < length S.routines) ⊎ (length S.routines ≤ i) → IsOwner S (Owner.Routine i)
    go (inl inside) = inside
    go (inr past) =
        let none : length (program S (Owner.Routine i)) ≡ 0 = ap (λ (a : Routine). length a.program) (get_or_past S.routines i no_routine past) in
        absurd (let low = placed.place in omega arith)

pub placed_known : (S : System) (owner : Owner) (x : Context) → IsProper S → IsPlaced S owner x → KnownPlace S owner x.place
placed_known S owner x proper placed = known_place S owner x.place proper (placed_owner S owner x placed) placed.place

-- Who gets other registers, and what a service and a control leave as it is.
use Rattle.std.proofs.Common.{◌≡◌, ℕ, Bool, true, false, cond, List, ◌∷◌, refl, sym, ◌∙◌, ap}
use Rattle.std.specs.Prelude.{Option, Some, None, IfSome, slice_index, bit_or}
use Rattle.std.specs.Option.{option_map}
use Rattle.osek_base.specs.declared.ids.Owner.{Owner}
use Rattle.osek_base.specs.declared.instr.Service.{Service}
use Rattle.osek_base.specs.declared.instr.Control.{Control}
use Rattle.osek_base.specs.Types.{ServiceCall}
use Rattle.osek_base.specs.declared.status.Status.{Status}
use Rattle.osek_base.specs.System.{System}
use Rattle.osek_base.specs.Instruction.{Context}
use Rattle.osek_base.specs.State.{Active, Words, interrupts_off}
use Rattle.osek_base.specs.Service.{first_refusal, is_met, meets}
use Rattle.osek_base.specs.Tick.{moved}
use Rattle.law_kept.specs.Kept.{Kept, Slot}
use Rattle.law_kept.specs.Moves.{slot_changed, released_in}
use Rattle.law_kept.specs.KeptService.{KeptCaller, ByTask, ByRoutine, ByNobody, bare, slot_moved, with_caller_in, caller_ended_in, slot_given_up, slot_gets, slot_releases, with_mask, events_cleared_in, event_awaited_in, is_outranked_in, slot_waiting, refusals_in, effect_in, reply_in, service_in}
use Rattle.law_kept.specs.KeptTick.{with_context_in, controlled_in}
use Rattle.law_future.proofs.Steps.{mapped_routine, mapped, changed_mapped}

-- ---- who gets other registers

-- the owner is the caller's, in a state with this active routine
abbrev pub IsOf : Owner → KeptCaller → Option Active → Type 0
IsOf who (ByTask t) active = who ≡ Owner.Task t
IsOf who ByRoutine active = IfSome active (λ a. Owner.Routine a.routine ≡ who)
IsOf who ByNobody active = Unit {0}

module _ (cx : Owner → Context → Context) (wd : Words → Words) (sh : List (List ℕ) → List (List ℕ)) (who : Owner) where
  pub still_of : (d : KeptCaller) (active : Option Active) → IsOf who d active
      → IsOf who d (option_map (mapped_routine cx) active)
  still_of (ByTask t) active h = h
  still_of ByRoutine None h = h
  still_of ByRoutine (Some a) h = h
  still_of ByNobody active h = tt

  -- the active routine gets other registers
  moved_mapped : (w : Owner) (x : Context) (active : Option Active) → IfSome active (λ a. Owner.Routine a.routine ≡ w)
      → option_map (mapped_routine cx) (option_map (moved x) active)
      ≡ option_map (moved (cx w x)) (option_map (mapped_routine cx) active)
  moved_mapped w x None h = refl
  moved_mapped w x (Some a) h = ap (λ u. Some (record { routine = a.routine; context = cx u x })) h

  pub context_mapped : (d : KeptCaller) (x : Context) (o : Kept) → IsOf who d o.active
      → mapped cx wd sh (with_context_in d x o) ≡ with_context_in d (cx who x) (mapped cx wd sh o)
  context_mapped (ByTask t) x o h =
      go o.gone
      ∙ ap (λ w. with_context_in (ByTask t) (cx w x) (mapped cx wd sh o)) (sym h)
    where
      go : (b : Bool)
          → mapped cx wd sh (cond b o (slot_changed t (slot_moved x) o))
          ≡ cond b (mapped cx wd sh o)
          (slot_changed t (slot_moved (cx (Owner.Task t) x)) (mapped cx wd sh o))
      go true = refl
      go false =
          ap (λ slots. record (mapped cx wd sh o) { slots = slots })
          (sym (changed_mapped cx o.slots t (slot_moved x (o.slots t))))
  context_mapped ByRoutine x o h = λ i. record (mapped cx wd sh o) { active = moved_mapped who x o.active h i }
  context_mapped ByNobody x o h = refl

-- ---- the active routine stays

abbrev pub active_of : Kept → Option Active
active_of o = o.active

pick_active : (b : Bool) (x y : Kept) (active : Option Active) → x.active ≡ active → y.active ≡ active
    → active_of (cond b x y) ≡ active
pick_active true x y active h k = h
pick_active false x y active h k = k

module _ (S : System) where
  caller_active : (d : KeptCaller) (g : Slot → Slot) (o : Kept) → active_of (with_caller_in d g o) ≡ o.active
  caller_active (ByTask t) g o = refl
  caller_active ByRoutine g o = refl
  caller_active ByNobody g o = refl

  ended_active : (d : KeptCaller) (o : Kept) → active_of (caller_ended_in d o) ≡ o.active
  ended_active (ByTask t) o = refl
  ended_active ByRoutine o = refl
  ended_active ByNobody o = refl

  cleared_active : (d : KeptCaller) (m : ℕ) (o : Kept) → active_of (events_cleared_in d m o) ≡ o.active
  cleared_active (ByTask t) m o = refl
  cleared_active ByRoutine m o = refl
  cleared_active ByNobody m o = refl

  awaited_active : (d : KeptCaller) (m : ℕ) (o : Kept) → active_of (event_awaited_in d m o) ≡ o.active
  awaited_active (ByTask t) m o =
      pick_active (meets m (slice_index o.masks t)) o (slot_changed t (slot_waiting m) o) o.active refl refl
  awaited_active ByRoutine m o = refl
  awaited_active ByNobody m o = refl

  effect_active : (d : KeptCaller) (o : Kept) (call : ServiceCall) → active_of (effect_in S d o call) ≡ o.active
  effect_active d o (Service.ActivateTask None) = refl
  effect_active d o (Service.ActivateTask (Some t)) = refl
  effect_active d o Service.TerminateTask = ended_active d o
  effect_active d o (Service.ChainTask None) = refl
  effect_active d o (Service.ChainTask (Some t)) = ended_active d o
  effect_active d o Service.Schedule =
      pick_active (is_outranked_in S o d) (with_caller_in d slot_given_up o) o o.active (caller_active d slot_given_up o) refl
  effect_active d o (Service.GetResource None) = refl
  effect_active d o (Service.GetResource (Some r)) = caller_active d (slot_gets r) o
  effect_active d o (Service.ReleaseResource None) = refl
  effect_active d o (Service.ReleaseResource (Some r)) = caller_active d slot_releases o
  effect_active d o (Service.StoreShared None n v) = refl
  effect_active d o (Service.StoreShared (Some r) n v) = refl
  effect_active d o (Service.SetEvent None m) = refl
  effect_active d o (Service.SetEvent (Some t) m) =
      pick_active (is_met (bit_or (slice_index o.masks t) m) (o.slots t).waits_for)
      (released_in S t (with_mask t (bit_or (slice_index o.masks t) m) o)) (with_mask t (bit_or (slice_index o.masks t) m) o)
      o.active refl refl
  effect_active d o (Service.ClearEvent m) = cleared_active d m o
  effect_active d o (Service.WaitEvent m) = awaited_active d m o
  effect_active d o call = refl

  pub service_active : (d : KeptCaller) (o : Kept) (call : ServiceCall) → active_of (service_in S d o call).state ≡ o.active
  unfolding service_in
  service_active d o call = go (first_refusal ((interrupts_off (bare o), Status.SysDisabled) ∷ refusals_in S d o call))
    where
      go : (refusal : Option Status) → active_of (reply_in S d o call refusal).state ≡ o.active
      go None = effect_active d o call
      go (Some refusal) = refl

-- ---- controls

pub control_mapped : (cx : Owner → Context → Context) (wd : Words → Words) (sh : List (List ℕ) → List (List ℕ)) (control : Control ℕ) (o : Kept)
    → controlled_in control (mapped cx wd sh o) ≡ mapped cx wd sh (controlled_in control o)
control_mapped cx wd sh Control.DisableAllInterrupts o = refl
control_mapped cx wd sh control o = refl

pub control_of : (who : Owner) (d : KeptCaller) (control : Control ℕ) (o : Kept) → IsOf who d o.active
    → IsOf who d (active_of (controlled_in control o))
control_of who (ByTask t) control o h = h
control_of who ByNobody control o h = tt
control_of who ByRoutine Control.ReturnFromInterrupt o h = tt
control_of who ByRoutine Control.DisableAllInterrupts o h = h
control_of who ByRoutine Control.EnableAllInterrupts o h = h
control_of who ByRoutine Control.SuspendAllInterrupts o h = h
control_of who ByRoutine Control.ResumeAllInterrupts o h = h
control_of who ByRoutine Control.SuspendOsInterrupts o h = h
control_of who ByRoutine Control.ResumeOsInterrupts o h = h
control_of who ByRoutine (Control.ShutdownOs n) o h = h

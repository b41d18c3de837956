-- No call changes which task runs, or which routine is active, unless it ends.
use Rattle.std.proofs.Common.{◌≡◌, ℕ, Bool, true, false, cond, ◌∷◌, refl, sym, ◌∙◌, ap, subst}
use Rattle.std.specs.Option.{option_map}
use Rattle.std.specs.Prelude.{◌==◌, Option, Some, None, is_some, slice_index, bit_or}
use Rattle.osek_base.specs.declared.ids.Owner.{Owner}
use Rattle.osek_base.specs.declared.instr.Service.{Service}
use Rattle.osek_base.specs.Types.{ServiceCall}
use Rattle.osek_base.specs.declared.instr.Control.{Control}
use Rattle.osek_base.specs.declared.status.Status.{Status}
use Rattle.osek_base.specs.System.{System}
use Rattle.osek_base.specs.State.{Active, interrupts_off}
use Rattle.osek_base.specs.declared.trace_event.Results.{Results}
use Rattle.osek_base.specs.Tick.{answered, moved}
use Rattle.osek_base.specs.Service.{first_refusal, is_met, meets}
use Rattle.law_runs.proofs.Foremost.{equal}
use Rattle.law_kept.specs.Kept.{Kept, Slot}
use Rattle.ready_queues.specs.QueueMoves.{changed_at}
use Rattle.law_kept.specs.Moves.{activated_in, one_more, slot_changed, slot_woken, released_in}
use Rattle.law_kept.specs.KeptService.{KeptCaller, ByTask, ByRoutine, ByNobody, bare, slot_moved, caller_by, caller_in, service_in, effect_in, changed_in, refusals_in, with_caller_in, caller_ended_in, slot_given_up, slot_gets, slot_releases, slot_waiting, with_mask, events_cleared_in, event_awaited_in, is_outranked_in}
use Rattle.law_kept.specs.KeptTick.{controlled_in, with_context_in}
use Rattle.services.specs.Objects.{Objects, kept_in}
use Rattle.services.specs.Calls.{IsExecuting, IsRoutineOrNone, IsSameActive, IsSameCaller, IsThere, MayGoOn, active_context, caller_as, context_in, served_in}

-- the same task runs, the same routine is active, and unless a job ends all have the registers and places that they had
record IsAlike (o k : Kept) : Type 0 where
  running : k.running ≡ o.running
  active : k.active ≡ o.active
  contexts : (t : ℕ) → k.gone ≡ false → (k.slots t).context ≡ (o.slots t).context

same : (o : Kept) → IsAlike o o
same o = record { running = refl; active = refl; contexts = λ t stands. refl }

either : (b : Bool) (o x y : Kept) → IsAlike o x → IsAlike o y → IsAlike o (cond b x y)
either true o x y h k = h
either false o x y h k = k

-- one slot is changed, and not its registers and place
changed_context : (f : ℕ → Slot) (t u : ℕ) (a : Slot) → a.context ≡ (f t).context → (changed_at f t a u).context ≡ (f u).context
changed_context f t u a same = go (t == u) refl
  where
    go : (b : Bool) → (t == u) ≡ b → (cond b a (f u)).context ≡ (f u).context
    go true e = same ∙ ap (λ v. (f v).context) (equal t u e)
    go false e = refl

ended : (d : KeptCaller) (o : Kept) → IsAlike o (caller_ended_in d o)
ended (ByTask t) o = record { running = refl; active = refl; contexts = λ u stands. absurd (let e : true ≡ false = stands in cc) }
ended ByRoutine o = same o
ended ByNobody o = same o

changed : (d : KeptCaller) (g : Slot → Slot) (o : Kept) → ((a : Slot) → (g a).context ≡ a.context) → IsAlike o (with_caller_in d g o)
changed (ByTask t) g o keeps =
    record { running = refl; active = refl; contexts = λ u stands. changed_context o.slots t u (g (o.slots t)) (keeps (o.slots t)) }
changed ByRoutine g o keeps = same o
changed ByNobody g o keeps = same o

cleared : (d : KeptCaller) (m : ℕ) (o : Kept) → IsAlike o (events_cleared_in d m o)
cleared (ByTask t) m o = record { running = refl; active = refl; contexts = λ u stands. refl }
cleared ByRoutine m o = same o
cleared ByNobody m o = same o

awaited : (d : KeptCaller) (m : ℕ) (o : Kept) → IsAlike o (event_awaited_in d m o)
awaited (ByTask t) m o =
    either (meets m (slice_index o.masks t)) o o (slot_changed t (slot_waiting m) o) (same o)
    (changed (ByTask t) (slot_waiting m) o (λ a. refl))
awaited ByRoutine m o = same o
awaited ByNobody m o = same o

set : (S : System) (t v : ℕ) (o : Kept) → IsAlike o (cond (is_met v (o.slots t).waits_for) (released_in S t (with_mask t v o)) (with_mask t v o))
set S t v o =
    either (is_met v (o.slots t).waits_for) o (released_in S t (with_mask t v o)) (with_mask t v o)
    (record { running = refl; active = refl; contexts = λ u stands. changed_context o.slots t u (slot_woken (o.slots t)) refl })
    (record { running = refl; active = refl; contexts = λ u stands. refl })

activated : (S : System) (t : ℕ) (o k : Kept) → IsAlike o k → IsAlike o (activated_in S t k)
activated S t o k alike = record {
  running = alike.running;
  active = alike.active;
  contexts = λ u stands. changed_context k.slots t u (one_more (k.slots t)) refl ∙ alike.contexts u stands;
}

effect_alike : (S : System) (d : KeptCaller) (o : Kept) (call : ServiceCall) → IsAlike o (effect_in S d o call)
effect_alike S d o (Service.ActivateTask (Some t)) = activated S t o o (same o)
effect_alike S d o (Service.ActivateTask None) = record { running = refl; active = refl; contexts = λ u stands. refl }
effect_alike S d o Service.TerminateTask = ended d o
effect_alike S d o (Service.ChainTask (Some t)) = activated S t o (caller_ended_in d o) (ended d o)
effect_alike S d o (Service.ChainTask None) = record { running = refl; active = refl; contexts = λ u stands. refl }
effect_alike S d o Service.Schedule =
    either (is_outranked_in S o d) o (with_caller_in d slot_given_up o) o (changed d slot_given_up o (λ a. refl)) (same o)
effect_alike S d o (Service.GetResource (Some r)) = changed d (slot_gets r) o (λ a. refl)
effect_alike S d o (Service.GetResource None) = record { running = refl; active = refl; contexts = λ u stands. refl }
effect_alike S d o (Service.ReleaseResource (Some r)) = changed d slot_releases o (λ a. refl)
effect_alike S d o (Service.ReleaseResource None) = record { running = refl; active = refl; contexts = λ u stands. refl }
effect_alike S d o (Service.StoreShared (Some r) i v) = record { running = refl; active = refl; contexts = λ u stands. refl }
effect_alike S d o (Service.StoreShared None i v) = record { running = refl; active = refl; contexts = λ u stands. refl }
effect_alike S d o (Service.SetEvent (Some t) m) = set S t (bit_or (slice_index o.masks t) m) o
effect_alike S d o (Service.SetEvent None m) = record { running = refl; active = refl; contexts = λ u stands. refl }
effect_alike S d o (Service.ClearEvent m) = cleared d m o
effect_alike S d o (Service.WaitEvent m) = awaited d m o
effect_alike S d o call = record { running = refl; active = refl; contexts = λ u stands. refl }

service_alike : (S : System) (d : KeptCaller) (o : Kept) (call : ServiceCall) → IsAlike o (service_in S d o call).state
unfolding service_in
service_alike S d o call = go (first_refusal ((interrupts_off (bare o), Status.SysDisabled) ∷ refusals_in S d o call))
  where
    go : (r : Option Status) → IsAlike o (changed_in S d o call r)
    go None = effect_alike S d o call
    go (Some refusal) = same o

same_active : (a : Option Active) → IsSameActive a a
same_active None = tt
same_active (Some b) = refl

control_active : (o : Kept) (control : Control ℕ) → IsSameActive o.active (controlled_in control o).active
control_active o Control.DisableAllInterrupts = same_active o.active
control_active o Control.EnableAllInterrupts = same_active o.active
control_active o Control.SuspendAllInterrupts = same_active o.active
control_active o Control.ResumeAllInterrupts = same_active o.active
control_active o Control.SuspendOsInterrupts = same_active o.active
control_active o Control.ResumeOsInterrupts = same_active o.active
control_active o (Control.ShutdownOs n) = same_active o.active
control_active o Control.ReturnFromInterrupt = tt

pub served_caller : (o n : Objects) (call : ServiceCall) → kept_in n ≡ (served_in o.system (kept_in o) call).state → IsSameCaller o n
served_caller o n call new =
    let alike = service_alike o.system (caller_in (kept_in o)) (kept_in o) call in
    record {
      running = ap (λ (k : Kept). k.running) new ∙ alike.running;
      active = subst (IsSameActive o.active) (sym (ap (λ (k : Kept). k.active) new ∙ alike.active)) (same_active o.active);
      contexts = λ t stands. ap (λ (k : Kept). (k.slots t).context) new ∙ alike.contexts t (sym (ap (λ (k : Kept). k.gone) new) ∙ stands);
    }

pub controlled_caller : (o n : Objects) (control : Control ℕ) → kept_in n ≡ controlled_in control (kept_in o) → IsSameCaller o n
controlled_caller o n control new = record {
  running = ap (λ (k : Kept). k.running) new;
  active = subst (IsSameActive o.active) (sym (ap (λ (k : Kept). k.active) new)) (control_active (kept_in o) control);
  contexts = λ t stands. ap (λ (k : Kept). (k.slots t).context) new;
}

-- ---- who executes is there

task_calls : (a : Bool) (running : Option ℕ) (gone : Bool) (t : ℕ) → caller_by a running gone ≡ ByTask t → (running ≡ Some t) × (gone ≡ false)
task_calls true running gone t h = absurd (let e : ByRoutine ≡ ByTask t = h in cc)
task_calls false None gone t h = absurd (let e : ByNobody ≡ ByTask t = h in cc)
task_calls false (Some u) true t h = absurd (let e : ByNobody ≡ ByTask t = h in cc)
task_calls false (Some u) false t h = (let e : ByTask u ≡ ByTask t = h in cc, refl)

pub there : (o : Objects) (who : Owner) → IsExecuting (kept_in o) who → IsThere o who
there o (Owner.Task t) h = task_calls (is_some o.active) o.running o.gone t h.0
there o (Owner.Routine i) h = ap (λ (a : Option Active). is_some a) h

pub there_goes_on : (o : Objects) (who : Owner) → IsExecuting (kept_in o) who → MayGoOn o who
there_goes_on o (Owner.Task t) h = (task_calls (is_some o.active) o.running o.gone t h.0).0
there_goes_on o (Owner.Routine i) h = subst (λ a. IsRoutineOrNone a i) (sym h) refl

-- ---- who called and is still there has the registers and the place that it had

routine_still : (old new : Option Active) → IsSameActive old new → is_some new ≡ true → active_context new ≡ active_context old
routine_still old None left there = absurd (let e : false ≡ true = there in cc)
routine_still old (Some b) left there = sym (ap active_context left)

pub context_still : (o n : Objects) (who : Owner) → IsSameCaller o n → IsThere n who → context_in (kept_in n) who ≡ context_in (kept_in o) who
context_still o n (Owner.Task t) same there = same.contexts t there.1
context_still o n (Owner.Routine i) same there = routine_still o.active n.active same.active there

routine_answered : (k : Kept) (told : Status) (found : Results) (old new : Option Active) → IsSameActive old new
    → record k { active = option_map (moved (answered told found (active_context new))) new }
    ≡ record k { active = option_map (moved (answered told found (active_context old))) new }
routine_answered k told found old None left = refl
routine_answered k told found old (Some b) left =
    ap (λ (a : Option Active). record k { active = option_map (moved (answered told found (active_context a))) (Some b) }) (sym left)

pub answered_still : (o n : Objects) (who : Owner) (status : Status) (found : Results) → IsSameCaller o n
    → with_context_in (caller_as who) (answered status found (context_in (kept_in n) who)) (kept_in n)
    ≡ with_context_in (caller_as who) (answered status found (context_in (kept_in o) who)) (kept_in n)
answered_still o n (Owner.Task t) status found same = go n.gone refl
  where
    go : (g : Bool) → n.gone ≡ g
        → cond g (kept_in n) (slot_changed t (slot_moved (answered status found (context_in (kept_in n) (Owner.Task t)))) (kept_in n))
        ≡ cond g (kept_in n) (slot_changed t (slot_moved (answered status found (context_in (kept_in o) (Owner.Task t)))) (kept_in n))
    go true e = refl
    go false e = ap (λ x. slot_changed t (slot_moved (answered status found x)) (kept_in n)) (same.contexts t e)
answered_still o n (Owner.Routine i) status found same = routine_answered (kept_in n) status found o.active n.active same.active

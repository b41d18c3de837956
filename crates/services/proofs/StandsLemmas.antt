-- What stands for a state of a run stands for one after each step.
use Rattle.std.proofs.Common.{◌≡◌, ℕ, Bool, ◌+◌, ◌<◌, ◌≤◌, true, false, cond, length, refl, sym, ◌∙◌, ap, subst, arith}
use Rattle.std.specs.Prelude.{Option, Some, None, IfSome, is_some, slice_set}
use Rattle.std.specs.Option.{option_map}
use Rattle.osek_base.specs.declared.ids.Owner.{Owner}
use Rattle.osek_base.specs.declared.limits.TheConstants.{MAX_ACTIVATION}
use Rattle.osek_base.specs.declared.instr.Service.{Service}
use Rattle.osek_base.specs.declared.instr.Control.{Control}
use Rattle.osek_base.specs.Types.{ServiceCall}
use Rattle.osek_base.specs.System.{System}
use Rattle.osek_base.specs.Proper.{IsProper}
use Rattle.osek_base.specs.Instruction.{Context}
use Rattle.osek_base.specs.State.{State, JobId, Active, Words, still, with_job}
use Rattle.osek_base.specs.Alarm.{alarms_advanced}
use Rattle.osek_base.specs.Service.{NobodyCalls, service, unasked_service, controlled}
use Rattle.osek_base.specs.Reschedule.{reschedule}
use Rattle.osek_base.specs.Tick.{executor, job_moved, moved, start_phase}
use Rattle.osek_base.specs.Trace.{starting_alarms}
use Rattle.law_runs.proofs.Known.{ActivatesKnown}
use Rattle.law_runs.proofs.Formed.{IsPlaced}
use Rattle.law_kept.specs.Kept.{Kept, kept, task_in}
use Rattle.law_kept.specs.Moves.{slot_changed, KeptRecorded, contender, rescheduled}
use Rattle.law_kept.specs.KeptService.{slot_moved, ByTask, ByRoutine, ByNobody, KeptReply, bare, caller_in, unasked_in, service_in, moved_in}
use Rattle.law_kept.specs.KeptTick.{still_in, start_phase_in, controlled_in, with_context_in}
use Rattle.law_kept.specs.Standing.{IsStanding, Fits, MayServe, IsRunnerPlaced, runner_waits, is_overtaken_by}
use Rattle.law_kept.proofs.Fitting.{fits_where_standing}
use Rattle.law_kept.proofs.Standing.{alarms_stand, still_stands, started_stands, activate_stands, set_event_stands, service_stands, control_stands, reschedule_stands, advance_stands, flag_stands, start_stands, job_move_stands, routine_move_stands}
use Rattle.law_kept.proofs.Words.{with_words, unasked_words, service_words, control_words, context_words, start_phase_words, rescheduled_words}
use Rattle.services.specs.Objects.{Objects, StandsFor, Stands, AreFit, by_task, kept_in, kept_of}
use Rattle.services.specs.Dispatched.{IsCore}
use Rattle.services.proofs.BoundLemmas.{activation_few}
use Rattle.services.specs.Calls.{IsKnown, IsThere, MayGoOn, IsRoutineOrNone, caller_as, served_in}

-- no words matter to a step
abbrev pub IsWordless : (Kept → Kept) → Type 0
IsWordless f = (w : Words) (k : Kept) → f (with_words w k) ≡ with_words w (f k)

-- a step of the definitions is one of what is kept
stands_for : (o n : Objects) (s e : State) (f : Kept → Kept) → StandsFor o s → n.system ≡ o.system → IsWordless f → kept_in n ≡ f (kept_in o)
    → IsStanding o.system e × (kept o.system e ≡ f (kept o.system s)) → StandsFor n e
stands_for o n s e f stands system wordless new law =
    let all : kept o.system e ≡ with_words s.words (kept_in n) =
    law.1 ∙ ap f (sym stands.same) ∙ wordless s.words (kept_in o) ∙ ap (with_words s.words) (sym new) in
    let words : e.words ≡ s.words = ap (λ (k : Kept). k.words) all in
    record {
      standing = subst (λ S. IsStanding S e) (sym system) law.0;
      same = ap (λ w. kept_of w n) words ∙ sym all ∙ ap (λ S. kept S e) (sym system);
    }

pub stands_after : (o n : Objects) (s e : State) (f : Kept → Kept) → StandsFor o s → n.system ≡ o.system → IsWordless f → kept_in n ≡ f (kept_in o)
    → IsStanding o.system e × (kept o.system e ≡ f (kept o.system s)) → Stands n
stands_after o n s e f stands system wordless new law = (e, stands_for o n s e f stands system wordless new law)

placed_in : (S : System) (o : Objects) (w : Words) (r : Option ℕ) → IfSome r (IsRunnerPlaced S (kept_of w o)) → IfSome r (IsRunnerPlaced S (kept_in o))
placed_in S o w None h = tt
placed_in S o w (Some t) h = record { some = h.some; placed = h.placed }

pub fit_where_stands : (o : Objects) → Stands o → AreFit o
fit_where_stands o (s, stands) =
    let fits : Fits o.system (kept_of s.words o) = subst (Fits o.system) (sym stands.same) (fits_where_standing o.system s stands.standing) in
    record {
      running = fits.running;
      known = fits.known;
      high = fits.high;
      counted = fits.counted;
      runner = λ stays. placed_in o.system o s.words o.running (fits.runner stays);
      active = fits.active;
      added = fits.added;
      beside = fits.beside;
      woken = fits.woken;
    }

-- objects of which it isn't known whether they are dispatched, or settled
pub known_to_stand : {o : Objects} → Stands o → IsCore o false false
known_to_stand stands = record {
  stands = stands;
  dispatched = λ known. absurd (grind arith);
  settled = λ known. absurd (grind arith);
  both = λ known. absurd (grind arith);
}

-- no task has more jobs than any may have
pub few_jobs : (o : Objects) → Stands o → (t : ℕ) → t < length o.system.tasks → (by_task o.slots t).count ≤ MAX_ACTIVATION
few_jobs o (s, stands) t inside =
    let counted = (fit_where_stands o (s, stands)).counted t in
    let few = activation_few o.system stands.standing.proper t inside in
    omega (arith, counted, few)

pub stands_new : (c : Objects) (S : System) → IsProper S → c.system ≡ S → kept_in c ≡ still_in S → Stands c
stands_new c S proper system new =
    let law = still_stands S proper in (
      still S,
      record {
        standing = subst (λ T. IsStanding T (still S)) (sym system) law.0;
        same = ap (with_words (still S).words) (new ∙ sym law.1) ∙ ap (λ T. kept T (still S)) (sym system);
      },
    )

module _ (o n : Objects) where
  pub stands_started : (mode : ℕ) → Stands o → n ≡ record o { alarms = starting_alarms o.system mode } → Stands n
  stands_started mode (s, stands) new =
      stands_after o n s (record s { alarms = starting_alarms o.system mode }) (λ k. record k { alarms = starting_alarms o.system mode }) stands
      (ap (λ (x : Objects). x.system) new) (λ w k. refl) (ap kept_in new) (started_stands o.system s mode stands.standing, refl)

  pub stands_flagged : (i : ℕ) → Stands o → n ≡ record o { pending = slice_set o.pending i true } → Stands n
  stands_flagged i (s, stands) new =
      stands_after o n s (record s { pending = slice_set s.pending i true }) (λ k. record k { pending = slice_set k.pending i true }) stands
      (ap (λ (x : Objects). x.system) new) (λ w k. refl) (ap kept_in new) (flag_stands o.system s i stands.standing, refl)

  pub stands_advanced : Stands o
      → n ≡ record o { tick = o.tick + 1; alarms = alarms_advanced o.system (bare (record (kept_in o) { tick = o.tick + 1 })) } → Stands n
  stands_advanced (s, stands) new =
      stands_after o n s (record s { tick = s.tick + 1; alarms = alarms_advanced o.system (record s { tick = s.tick + 1 }) })
      (λ k. record k { tick = k.tick + 1; alarms = alarms_advanced o.system (bare (record k { tick = k.tick + 1 })) }) stands
      (ap (λ (x : Objects). x.system) new) (λ w k. refl) (ap kept_in new) (advance_stands o.system s stands.standing, refl)

  pub stands_passed : (m : ℕ) → Stands o → n ≡ record o { tick = o.tick + m } → Stands n
  stands_passed m (s, stands) new =
      stands_after o n s (record s { tick = s.tick + m }) (λ k. record k { tick = k.tick + m }) stands
      (ap (λ (x : Objects). x.system) new) (λ w k. refl) (ap kept_in new)
      (alarms_stand o.system s stands.standing (s.tick + m) s.alarms stands.standing.form.formed.alarms, refl)

overtaken_in : (S : System) (o : Objects) (w : Words) (r : Option ℕ) → is_overtaken_by S r (kept_of w o) ≡ is_overtaken_by S r (kept_in o)
overtaken_in S o w None = refl
overtaken_in S o w (Some t) = refl

pub activates : (S : System) (call : ServiceCall) → IsKnown S call → ActivatesKnown S call
activates S (Service.ActivateTask (Some t)) known = known
activates S (Service.ActivateTask None) known = tt
activates S (Service.ChainTask (Some t)) known = known
activates S (Service.ChainTask None) known = tt
activates S call known = tt

module _ (o n : Objects) (system : n.system ≡ o.system) where
  pub stands_for_activated : (s : State) (t : ℕ) → StandsFor o s → t < length o.system.tasks
      → kept_in n ≡ (unasked_in o.system ByNobody (kept_in o) (Service.ActivateTask (Some t))).state
      → StandsFor n (unasked_service o.system NobodyCalls s (Service.ActivateTask (Some t))).state
  stands_for_activated s t stands inside new =
      let law = activate_stands o.system s t stands.standing inside in
      stands_for o n s (unasked_service o.system NobodyCalls s (Service.ActivateTask (Some t))).state
      (λ k. (unasked_in o.system ByNobody k (Service.ActivateTask (Some t))).state) stands system
      (λ w k. ap (λ (r : KeptReply). r.state) (unasked_words o.system w ByNobody k (Service.ActivateTask (Some t)))) new
      (law.0, ap (λ (r : KeptReply). r.state) law.1)

  pub stands_activated : (t : ℕ) → Stands o → t < length o.system.tasks
      → kept_in n ≡ (unasked_in o.system ByNobody (kept_in o) (Service.ActivateTask (Some t))).state → Stands n
  stands_activated t (s, stands) inside new = (_, stands_for_activated s t stands inside new)

  pub stands_for_set : (s : State) (t m : ℕ) → StandsFor o s → t < length o.system.tasks → runner_waits (kept_in o) ≡ false
      → kept_in n ≡ (unasked_in o.system ByNobody (kept_in o) (Service.SetEvent (Some t) m)).state
      → StandsFor n (unasked_service o.system NobodyCalls s (Service.SetEvent (Some t) m)).state
  stands_for_set s t m stands inside ready new =
      let law = set_event_stands o.system s t m stands.standing inside (ap runner_waits (sym stands.same) ∙ ready) in
      stands_for o n s (unasked_service o.system NobodyCalls s (Service.SetEvent (Some t) m)).state
      (λ k. (unasked_in o.system ByNobody k (Service.SetEvent (Some t) m)).state) stands system
      (λ w k. ap (λ (r : KeptReply). r.state) (unasked_words o.system w ByNobody k (Service.SetEvent (Some t) m))) new
      (law.0, ap (λ (r : KeptReply). r.state) law.1)

  pub stands_set : (t m : ℕ) → Stands o → t < length o.system.tasks → runner_waits (kept_in o) ≡ false
      → kept_in n ≡ (unasked_in o.system ByNobody (kept_in o) (Service.SetEvent (Some t) m)).state → Stands n
  stands_set t m (s, stands) inside ready new = (_, stands_for_set s t m stands inside ready new)

  pub stands_rescheduled : Stands o → kept_in n ≡ (rescheduled o.system (kept_in o)).state → Stands n
  stands_rescheduled (s, stands) new =
      let law = reschedule_stands o.system s stands.standing in
      stands_after o n s (reschedule o.system s).state (λ k. (rescheduled o.system k).state) stands system
      (λ w k. ap (λ (r : KeptRecorded). r.state) (rescheduled_words o.system w k)) new
      (law.0, ap (λ (r : KeptRecorded). r.state) law.1)

  pub stands_routine : Stands o → kept_in n ≡ start_phase_in o.system (kept_in o) → Stands n
  stands_routine (s, stands) new =
      let law = start_stands o.system s stands.standing in
      stands_after o n s (start_phase o.system s) (start_phase_in o.system) stands system (λ w k. start_phase_words o.system w k) new law

  -- a service of whoever executes
  pub serves_for : (s : State) → StandsFor o s → MayServe o.system (kept_in o) → MayServe o.system (kept o.system s)
  serves_for s stands may =
      let here : MayServe o.system (kept_of s.words o) = record { ready = may.ready; chosen = λ h. overtaken_in o.system o s.words (contender (kept_in o)) ∙ may.chosen h } in
      subst (MayServe o.system) stands.same here

  pub stands_for_served : (s : State) (call : ServiceCall) → StandsFor o s → IsKnown o.system call → MayServe o.system (kept_in o)
      → kept_in n ≡ (served_in o.system (kept_in o) call).state → StandsFor n (service o.system (executor s) s call).state
  stands_for_served s call stands known may new =
      let law = service_stands o.system s call stands.standing (serves_for s stands may) (activates o.system call known) in
      stands_for o n s (service o.system (executor s) s call).state (λ k. (service_in o.system (caller_in k) k call).state) stands system
      (λ w k. ap (λ (r : KeptReply). r.state) (service_words o.system w (caller_in k) k call)) new
      (law.0, ap (λ (r : KeptReply). r.state) law.1)

  pub stands_served : (call : ServiceCall) → Stands o → IsKnown o.system call → MayServe o.system (kept_in o)
      → kept_in n ≡ (served_in o.system (kept_in o) call).state → Stands n
  stands_served call (s, stands) known may new = (_, stands_for_served s call stands known may new)

  -- a service without a status
  pub stands_for_controlled : (s : State) (control : Control ℕ) → StandsFor o s → kept_in n ≡ controlled_in control (kept_in o)
      → StandsFor n (controlled control s)
  stands_for_controlled s control stands new =
      stands_for o n s (controlled control s) (controlled_in control) stands system (λ w k. control_words o.system w k control) new
      (control_stands o.system s control stands.standing)

  pub stands_controlled : (control : Control ℕ) → Stands o → kept_in n ≡ controlled_in control (kept_in o) → Stands n
  stands_controlled control (s, stands) new = (_, stands_for_controlled s control stands new)

  -- who executed goes on
  pub stands_gone_on : (owner : Owner) (x : Context) → Stands o → MayGoOn o owner → IsPlaced o.system owner x
      → kept_in n ≡ with_context_in (caller_as owner) x (kept_in o) → Stands n
  stands_gone_on (Owner.Task t) x (s, stands) who placed new = go s.running refl (sym (ap (λ (k : Kept). k.running) stands.same) ∙ who)
    where
      go : (r : Option JobId) → s.running ≡ r → option_map task_in s.running ≡ Some t → Stands n
      go None e h = absurd (let clash : None ≡ Some t = sym (ap (option_map task_in) e) ∙ h in cc)
      go (Some j) e h =
          let named : Some j.task ≡ Some t = sym (ap (option_map task_in) e) ∙ h in
          let task : j.task ≡ t = cc in
          let law = job_move_stands o.system s j x stands.standing e (subst (λ u. IsPlaced o.system (Owner.Task u) x) (sym task) placed) in
          stands_after o n s (record s { jobs = with_job j (job_moved x) s.jobs }) (with_context_in (ByTask t) x) stands system
          (λ w k. context_words o.system w (ByTask t) x k) new (law.0, law.1 ∙ ap (λ u. moved_in u x (kept o.system s)) task)
  stands_gone_on (Owner.Routine i) x (s, stands) who placed new =
      stands_after o n s (record s { active = option_map (moved x) s.active }) (with_context_in ByRoutine x) stands system
      (λ w k. context_words o.system w ByRoutine x k) new (
        routine_move_stands o.system s x stands.standing
            (λ a e. that a (subst (λ r. IsRoutineOrNone r i) (ap (λ (k : Kept). k.active) stands.same ∙ e) who)),
        refl,
      )
    where
      that : (a : Active) → a.routine ≡ i → IsPlaced o.system (Owner.Routine a.routine) x
      that a e = subst (λ u. IsPlaced o.system (Owner.Routine u) x) (sym e) placed

  stands_as_before : Stands o → kept_in n ≡ kept_in o → Stands n
  stands_as_before (s, stands) new = stands_after o n s s (λ k. k) stands system (λ w k. refl) new (stands.standing, refl)

  -- who executed goes on, if it is still there
  pub stands_gone_on_there : (owner : Owner) (x : Context) → Stands o → MayGoOn o owner → (IsThere o owner → IsPlaced o.system owner x)
      → kept_in n ≡ with_context_in (caller_as owner) x (kept_in o) → Stands n
  stands_gone_on_there (Owner.Task t) x stands who placed new = go o.gone refl
    where
      go : (g : Bool) → o.gone ≡ g → Stands n
      go true e = stands_as_before stands (new ∙ ap (λ b. cond b (kept_in o) (slot_changed t (slot_moved x) (kept_in o))) e)
      go false e = stands_gone_on (Owner.Task t) x stands who (placed (who, e)) new
  stands_gone_on_there (Owner.Routine i) x stands who placed new = go o.active refl
    where
      go : (a : Option Active) → o.active ≡ a → Stands n
      go None e =
          stands_as_before stands
          (new ∙ ap (λ a. record (kept_in o) { active = option_map (moved x) a }) e ∙ ap (λ a. record (kept_in o) { active = a }) (sym e))
      go (Some a) e = stands_gone_on (Owner.Routine i) x stands who (placed (ap (λ (v : Option Active). is_some v) e)) new

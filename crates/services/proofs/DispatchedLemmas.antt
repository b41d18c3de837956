-- Where the running task is the one that is to run, a reschedule changes nothing; and what leaves it so.
use Rattle.std.proofs.Common.{◌≡◌, ℕ, suc, Bool, true, false, cond, not, ◌&&◌, nat_le, ◌∷◌, refl, sym, ◌∙◌, ap, ap₂, arith}
use Rattle.std.specs.Prelude.{◌==◌, Option, Some, None, is_some}
use Rattle.std.proofs.Math.Path.{fun_ext}
use Rattle.osek_base.specs.Types.{ServiceCall}
use Rattle.osek_base.specs.declared.status.Status.{Status}
use Rattle.osek_base.specs.System.{System}
use Rattle.osek_base.specs.Ceiling.{internal_ceiling, top_priority}
use Rattle.osek_base.specs.Instruction.{Context}
use Rattle.osek_base.specs.Service.{answer, first_refusal}
use Rattle.osek_base.specs.State.{interrupts_off}
use Rattle.osek_base.specs.Tick.{routine_choice}
use Rattle.osek_base.proofs.PlaceLemmas.{and_split}
use Rattle.law_runs.proofs.Foremost.{equal}
use Rattle.law_kept.specs.Kept.{Kept, Slot}
use Rattle.ready_queues.specs.QueueMoves.{changed_at, highest}
use Rattle.law_kept.specs.Moves.{KeptRecorded, chosen, contender, contender_of, dynamic_in, left_in, may_dispatch_in, rescheduled, slot_changed, slot_entered, stays}
use Rattle.law_kept.specs.KeptService.{KeptCaller, ByTask, ByRoutine, ByNobody, bare, caller_in, changed_in, is_above, refusals_in, service_in, slot_moved}
use Rattle.law_kept.specs.KeptTick.{routine_started_in, silent_in, start_phase_in, with_context_in}
use Rattle.services.specs.Calls.{served_in}
use Rattle.services.specs.Objects.{Objects, kept_in}
use Rattle.services.specs.Dispatched.{has_entered, is_dispatched_by, is_dispatched_in, is_refusal, runs_on}

-- a value is put where it is already
pub put_again : {X : Type 0} (f : ℕ → X) (n : ℕ) (x : X) → x ≡ f n → changed_at f n x ≡ f
put_again f n x same = fun_ext (λ m. go m (n == m) refl)
  where
    go : (m : ℕ) (b : Bool) → (n == m) ≡ b → cond b x (f m) ≡ f m
    go m true e = same ∙ ap f (equal n m e)
    go m false e = refl

taken_is : (has taken : Bool) → cond has taken (not taken) ≡ true → has ≡ taken
taken_is true true h = refl
taken_is true false h = absurd (grind arith)
taken_is false true h = absurd (grind arith)
taken_is false false h = refl

entered_again : (S : System) (t : ℕ) (a : Slot) → has_entered S t a ≡ true → slot_entered S t a ≡ a
entered_again S t a h =
    let both = and_split a.begun (cond (is_some (internal_ceiling S t)) a.taken (not a.taken)) h in
    ap₂ (λ (x y : Bool). record a { begun = x; taken = y }) (sym both.0) (taken_is (is_some (internal_ceiling S t)) a.taken both.1)

-- ---- a reschedule

module _ (S : System) (o : Kept) where
  stays_on : (t : ℕ) → has_entered S t (o.slots t) ≡ true → stays S t o ≡ silent_in o
  stays_on t entered =
      ap (λ (slots : ℕ → Slot). silent_in (record o { slots = slots }))
      (put_again o.slots t (slot_entered S t (o.slots t)) (entered_again S t (o.slots t) entered))

  stays_chosen : (t : ℕ) (top : Option ℕ) → has_entered S t (o.slots t) ≡ true
      → not (is_above (dynamic_in S t (o.slots t)) top) ≡ true → chosen S (Some t) top o ≡ silent_in o
  stays_chosen t None entered low = stays_on t entered
  stays_chosen t (Some l) entered low =
      let le : nat_le l (dynamic_in S t (o.slots t)) ≡ true = grind (arith, low) in
      rw le (stays_on t entered)

  nobody_again : o.running ≡ None → o.gone ≡ false → chosen S None None o ≡ silent_in o
  nobody_again none stands =
      ap (λ (r : Option ℕ). left r) none ∙ ap₂ (λ (r : Option ℕ) (g : Bool). silent_in (record o { running = r; gone = g })) (sym none) (sym stands)
    where
      left : Option ℕ → KeptRecorded
      left r = record { events = left_in S r; state = record o { running = None; gone = false } }

  chosen_again : (r : Option ℕ) → o.running ≡ r → (g : Bool) → o.gone ≡ g → (top : Option ℕ)
      → is_dispatched_by S r g o.slots top ≡ true → chosen S (contender_of r g o.slots) top o ≡ silent_in o
  chosen_again None er true eg top h = absurd (grind arith)
  chosen_again None er false eg (Some l) h = absurd (grind arith)
  chosen_again None er false eg None h = nobody_again er eg
  chosen_again (Some t) er true eg top h = absurd (grind arith)
  chosen_again (Some t) er false eg top h =
      let ready = and_split (not (is_some (o.slots t).waits_for)) (has_entered S t (o.slots t) && not (is_above (dynamic_in S t (o.slots t)) top)) h in
      let rest = and_split (has_entered S t (o.slots t)) (not (is_above (dynamic_in S t (o.slots t)) top)) ready.1 in
      go (is_some (o.slots t).waits_for) ready.0 (stays_chosen t top rest.0 rest.1)
    where
      go : (w : Bool) → not w ≡ true → chosen S (Some t) top o ≡ silent_in o → chosen S (cond w None (Some t)) top o ≡ silent_in o
      go true e k = absurd (grind arith)
      go false e k = k

  pub rescheduled_again : is_dispatched_in S o ≡ true → rescheduled S o ≡ silent_in o
  unfolding rescheduled
  rescheduled_again h = go (may_dispatch_in o)
    where
      go : (b : Bool) → cond b (chosen S (contender o) (highest (suc (top_priority S)) o.queues) o) (silent_in o) ≡ silent_in o
      go true = chosen_again o.running refl o.gone refl (highest (suc (top_priority S)) o.queues) h
      go false = refl

  -- ---- steps that dispatch nothing

  moved_on : (t u : ℕ) (x : Context) (top : Option ℕ)
      → runs_on S u (changed_at o.slots t (slot_moved x (o.slots t)) u) top ≡ runs_on S u (o.slots u) top
  moved_on t u x top = go (t == u) refl
    where
      go : (b : Bool) → (t == u) ≡ b → runs_on S u (cond b (slot_moved x (o.slots t)) (o.slots u)) top ≡ runs_on S u (o.slots u) top
      go true e = ap (λ v. runs_on S u (o.slots v) top) (equal t u e)
      go false e = refl

  -- who executes goes on
  pub gone_on_dispatched : (d : KeptCaller) (x : Context) → is_dispatched_in S (with_context_in d x o) ≡ is_dispatched_in S o
  gone_on_dispatched (ByTask t) x = go o.gone
    where
      slots : ℕ → Slot
      slots = changed_at o.slots t (slot_moved x (o.slots t))

      runner : (r : Option ℕ) (top : Option ℕ) → is_dispatched_by S r o.gone slots top ≡ is_dispatched_by S r o.gone o.slots top
      runner None top = refl
      runner (Some u) top = ap (λ b. not o.gone && b) (moved_on t u x top)

      go : (b : Bool) → is_dispatched_in S (cond b o (slot_changed t (slot_moved x) o)) ≡ is_dispatched_in S o
      go true = refl
      go false = runner o.running (highest (suc (top_priority S)) o.queues)
  gone_on_dispatched ByRoutine x = refl
  gone_on_dispatched ByNobody x = refl

  -- a routine starts, or none
  pub started_dispatched : is_dispatched_in S (start_phase_in S o) ≡ is_dispatched_in S o
  unfolding start_phase_in
  started_dispatched = go (may_dispatch_in o) (routine_choice S (bare o))
    where
      go : (b : Bool) (r : Option ℕ) → is_dispatched_in S (cond b (routine_started_in r o) o) ≡ is_dispatched_in S o
      go true None = refl
      go true (Some i) = refl
      go false r = refl

-- a step that leaves it so
pub still_dispatched : (o n : Objects) (f : Kept → Kept) → n.system ≡ o.system → kept_in n ≡ f (kept_in o)
    → is_dispatched_in o.system (f (kept_in o)) ≡ is_dispatched_in o.system (kept_in o)
    → is_dispatched_in o.system (kept_in o) ≡ true → is_dispatched_in n.system (kept_in n) ≡ true
still_dispatched o n f system new same known = ap₂ is_dispatched_in system new ∙ same ∙ known

-- a refused service changes nothing
refused_in : (S : System) (d : KeptCaller) (o : Kept) (call : ServiceCall) (refusal : Option Status)
    → is_refusal (answer refusal) ≡ true → changed_in S d o call refusal ≡ o
refused_in S d o call None h = absurd (grind arith)
refused_in S d o call (Some refusal) h = refl

pub refused_service : (S : System) (o : Kept) (call : ServiceCall) → is_refusal ((served_in S o call).status) ≡ true
    → (served_in S o call).state ≡ o
unfolding service_in
refused_service S o call h =
    refused_in S (caller_in o) o call (first_refusal ((interrupts_off (bare o), Status.SysDisabled) ∷ refusals_in S (caller_in o) o call)) h

-- A service that calls for no reschedule leaves the running task the one that is to run, and a system settled.
use Rattle.std.proofs.Common.{◌≡◌, ◌≤◌, ◌⊎◌, inl, inr, ◌||◌, ℕ, suc, Bool, true, false, cond, not, ◌&&◌, List, [], ◌∷◌, ◌++◌, map, refl, sym, ◌∙◌, ap, ap₂, subst, arith}
use Rattle.std.specs.Prelude.{◌==◌, Option, Some, None, is_some, slice_index, bit_or}
use Rattle.std.proofs.lemmas.List.{map-append}
use Rattle.osek_base.specs.declared.ids.ResId.{ResId}
use Rattle.osek_base.specs.declared.instr.Service.{Service}
use Rattle.osek_base.specs.declared.status.Status.{Status}
use Rattle.osek_base.specs.Types.{ServiceCall}
use Rattle.osek_base.specs.Instruction.{Context}
use Rattle.osek_base.specs.Lists.{greatest}
use Rattle.osek_base.specs.Service.{first_refusal, is_met}
use Rattle.osek_base.specs.State.{interrupts_off}
use Rattle.osek_base.specs.System.{System, priority_of}
use Rattle.osek_base.specs.Ceiling.{ceiling, top_priority}
use Rattle.osek_base.specs.Tick.{at_values}
use Rattle.osek_base.proofs.PlaceLemmas.{and_split}
use Rattle.law_runs.proofs.Foremost.{equal}
use Rattle.law_kept.specs.Kept.{Kept, Slot}
use Rattle.ready_queues.specs.QueueMoves.{changed_at, highest, put_newest}
use Rattle.law_kept.specs.Moves.{activated_in, dynamic_in, one_more, released_in, slot_woken}
use Rattle.law_kept.specs.KeptService.{KeptCaller, ByTask, ByRoutine, ByNobody, bare, caller_in, changed_in, effect_in, event_set_in, is_above, refusals_in, service_in, slot_gets, slot_releases, with_caller_in, with_mask}
use Rattle.services.specs.Calls.{served_in}
use Rattle.services.specs.declared.calls.Answer.{Answer}
use Rattle.services.specs.Steps.{Answers}
use Rattle.services.specs.Objects.{Objects, kept_in}
use Rattle.services.specs.Dispatched.{has_entered, is_dispatched_by, is_dispatched_in, is_outranked_by, is_refusal, is_runner_outranked, may_dispatch, runs_on}
use Rattle.services.proofs.DispatchedLemmas.{refused_service}
use Rattle.services.specs.Quiet.{IsSettled}

-- ---- a job that gets a resource

greatest_more : (xs : List ℕ) (n : ℕ) → greatest xs ≤ greatest (xs ++ n ∷ [])
greatest_more [] n = omega arith
greatest_more (x ∷ xs) n = omega (arith, greatest_more xs n)

not_above : (n m : ℕ) (top : Option ℕ) → n ≤ m → not (is_above n top) ≡ true → not (is_above m top) ≡ true
not_above n m None low h = refl
not_above n m (Some l) low h = grind (arith, low, h)

module _ (S : System) where
  dynamic_more : (t : ℕ) (a : Slot) (r : ResId) → dynamic_in S t a ≤ dynamic_in S t (slot_gets r a)
  dynamic_more t a r =
      let more = greatest_more (map (ceiling S) a.held) (ceiling S r) in
      rw (map-append (ceiling S) a.held (r ∷ [])) (omega (arith, more))

  gets_on : (t : ℕ) (a : Slot) (r : ResId) (top : Option ℕ) → runs_on S t a top ≡ true → runs_on S t (slot_gets r a) top ≡ true
  gets_on t a r top h =
      let ready = and_split (not (is_some a.waits_for)) (has_entered S t a && not (is_above (dynamic_in S t a) top)) h in
      let rest = and_split (has_entered S t a) (not (is_above (dynamic_in S t a) top)) ready.1 in
      let low = not_above (dynamic_in S t a) (dynamic_in S t (slot_gets r a)) top (dynamic_more t a r) rest.1 in
      ap₂ (λ u v. u && v) ready.0 (ap₂ (λ u v. u && v) rest.0 low)

  -- ---- a job that runs on where no task is ready above its task

  not_below : (t : ℕ) (a : Slot) (top : Option ℕ) → is_outranked_by S (Some t) top ≡ false → not (is_above (dynamic_in S t a) top) ≡ true
  not_below t a None below = refl
  not_below t a (Some l) below = grind (arith, below)

  stays_on : (t : ℕ) (a b : Slot) (was top : Option ℕ) → runs_on S t a was ≡ true
      → (not (is_some a.waits_for) ≡ true → not (is_some b.waits_for) ≡ true) → has_entered S t b ≡ has_entered S t a
      → is_outranked_by S (Some t) top ≡ false → runs_on S t b top ≡ true
  stays_on t a b was top h waits same below =
      let ready = and_split (not (is_some a.waits_for)) (has_entered S t a && not (is_above (dynamic_in S t a) was)) h in
      let rest = and_split (has_entered S t a) (not (is_above (dynamic_in S t a) was)) ready.1 in
      ap₂ (λ u v. u && v) (waits ready.0) (ap₂ (λ u v. u && v) (same ∙ rest.0) (not_below t b top below))

  module _ (o : Kept) where
    gets_on_at : (t u : ℕ) (r : ResId) (top : Option ℕ) → runs_on S u (o.slots u) top ≡ true
        → runs_on S u (changed_at o.slots t (slot_gets r (o.slots t)) u) top ≡ true
    gets_on_at t u r top h = go (t == u) refl
      where
        go : (b : Bool) → (t == u) ≡ b → runs_on S u (cond b (slot_gets r (o.slots t)) (o.slots u)) top ≡ true
        go true e = ap (λ v. runs_on S u (slot_gets r (o.slots v)) top) (equal t u e) ∙ gets_on u (o.slots u) r top h
        go false e = h

    gets_dispatched : (d : KeptCaller) (r : ResId) → is_dispatched_in S o ≡ true → is_dispatched_in S (with_caller_in d (slot_gets r) o) ≡ true
    gets_dispatched (ByTask t) r h = runner o.running h
      where
        slots : ℕ → Slot
        slots = changed_at o.slots t (slot_gets r (o.slots t))

        top : Option ℕ
        top = highest (suc (top_priority S)) o.queues

        runner : (running : Option ℕ) → is_dispatched_by S running o.gone o.slots top ≡ true → is_dispatched_by S running o.gone slots top ≡ true
        runner None e = e
        runner (Some u) e =
            let both = and_split (not o.gone) (runs_on S u (o.slots u) top) e in
            ap₂ (λ x y. x && y) both.0 (gets_on_at t u r top both.1)
    gets_dispatched ByRoutine r h = h
    gets_dispatched ByNobody r h = h

    -- one slot becomes another, whose job has entered and waits no more than before
    module _ (t : ℕ) (g : Slot → Slot) (waits : (a : Slot) → not (is_some a.waits_for) ≡ true → not (is_some (g a).waits_for) ≡ true)
        (same : (u : ℕ) (a : Slot) → has_entered S u (g a) ≡ has_entered S u a) where
      stays_on_at : (u : ℕ) (was top : Option ℕ) → runs_on S u (o.slots u) was ≡ true → is_outranked_by S (Some u) top ≡ false
          → runs_on S u (changed_at o.slots t (g (o.slots t)) u) top ≡ true
      stays_on_at u was top h below = go (t == u) refl
        where
          go : (b : Bool) → (t == u) ≡ b → runs_on S u (cond b (g (o.slots t)) (o.slots u)) top ≡ true
          go true e =
              ap (λ v. runs_on S u (g (o.slots v)) top) (equal t u e)
              ∙ stays_on u (o.slots u) (g (o.slots u)) was top h (waits (o.slots u)) (same u (o.slots u)) below
          go false e = stays_on u (o.slots u) (o.slots u) was top h (λ w. w) refl below

      changed_dispatched : (top : Option ℕ) → is_dispatched_in S o ≡ true → is_outranked_by S o.running top ≡ false
          → is_dispatched_by S o.running o.gone (changed_at o.slots t (g (o.slots t))) top ≡ true
      changed_dispatched top h below = runner o.running h below
        where
          was : Option ℕ
          was = highest (suc (top_priority S)) o.queues

          slots : ℕ → Slot
          slots = changed_at o.slots t (g (o.slots t))

          runner : (running : Option ℕ) → is_dispatched_by S running o.gone o.slots was ≡ true → is_outranked_by S running top ≡ false
              → is_dispatched_by S running o.gone slots top ≡ true
          runner None e low =
              let both = and_split (not o.gone) (not (is_some was)) e in
              ap₂ (λ x y. x && y) both.0 (ap not low)
          runner (Some u) e low =
              let both = and_split (not o.gone) (runs_on S u (o.slots u) was) e in
              ap₂ (λ x y. x && y) both.0 (stays_on_at u was top both.1 low)

    -- a task has one job more, its job is released, or who calls releases a resource
    activated_dispatched : (t : ℕ) → is_dispatched_in S o ≡ true → is_runner_outranked S (activated_in S t o) ≡ false
        → is_dispatched_in S (activated_in S t o) ≡ true
    activated_dispatched t h below =
        changed_dispatched t one_more (λ a w. w) (λ u a. refl) (highest (suc (top_priority S)) (put_newest o.queues (priority_of S t) t)) h below

    event_dispatched : (t m : ℕ) → is_dispatched_in S o ≡ true → is_runner_outranked S (event_set_in S t m o) ≡ false
        → is_dispatched_in S (event_set_in S t m o) ≡ true
    event_dispatched t m h = go (is_met set (o.slots t).waits_for)
      where
        set : ℕ
        set = bit_or (slice_index o.masks t) m

        go : (b : Bool) → is_runner_outranked S (cond b (released_in S t (with_mask t set o)) (with_mask t set o)) ≡ false
            → is_dispatched_in S (cond b (released_in S t (with_mask t set o)) (with_mask t set o)) ≡ true
        go true below =
            changed_dispatched t slot_woken (λ a w. refl) (λ u a. refl) (highest (suc (top_priority S)) (put_newest o.queues (priority_of S t) t)) h below
        go false below = h

    releases_dispatched : (d : KeptCaller) → is_dispatched_in S o ≡ true → is_runner_outranked S (with_caller_in d slot_releases o) ≡ false
        → is_dispatched_in S (with_caller_in d slot_releases o) ≡ true
    releases_dispatched (ByTask t) h below =
        changed_dispatched t slot_releases (λ a w. w) (λ u a. refl) (highest (suc (top_priority S)) o.queues) h below
    releases_dispatched ByRoutine h below = h
    releases_dispatched ByNobody h below = h

    gets_settled : (d : KeptCaller) (r : ResId) → IsSettled S o → IsSettled S (with_caller_in d (slot_gets r) o)
    gets_settled (ByTask t) r s = record { on = s.on; runs = s.runs; no_routine = s.no_routine; none_pending = s.none_pending }
    gets_settled ByRoutine r s = s
    gets_settled ByNobody r s = s

    releases_settled : (d : KeptCaller) → IsSettled S o → IsSettled S (with_caller_in d slot_releases o)
    releases_settled (ByTask t) s = record { on = s.on; runs = s.runs; no_routine = s.no_routine; none_pending = s.none_pending }
    releases_settled ByRoutine s = s
    releases_settled ByNobody s = s

    event_settled : (t m : ℕ) → IsSettled S o → IsSettled S (event_set_in S t m o)
    event_settled t m s = go (is_met set (o.slots t).waits_for)
      where
        set : ℕ
        set = bit_or (slice_index o.masks t) m

        go : (b : Bool) → IsSettled S (cond b (released_in S t (with_mask t set o)) (with_mask t set o))
        go true = record { on = s.on; runs = s.runs; no_routine = s.no_routine; none_pending = s.none_pending }
        go false = record { on = s.on; runs = s.runs; no_routine = s.no_routine; none_pending = s.none_pending }

    -- ---- each service that calls for no reschedule

    effect_dispatched : (d : KeptCaller) (call : ServiceCall) → may_dispatch (is_runner_outranked S (effect_in S d o call)) call ≡ false
        → is_dispatched_in S o ≡ true → is_dispatched_in S (effect_in S d o call) ≡ true
    effect_dispatched d (Service.ActivateTask None) never h = h
    effect_dispatched d (Service.ActivateTask (Some t)) never h = activated_dispatched t h never
    effect_dispatched d Service.TerminateTask never h = absurd (grind arith)
    effect_dispatched d (Service.ChainTask t) never h = absurd (grind arith)
    effect_dispatched d Service.Schedule never h = absurd (grind arith)
    effect_dispatched d Service.GetTaskId never h = h
    effect_dispatched d (Service.GetTaskState t) never h = h
    effect_dispatched d (Service.GetResource None) never h = h
    effect_dispatched d (Service.GetResource (Some r)) never h = gets_dispatched d r h
    effect_dispatched d (Service.ReleaseResource None) never h = h
    effect_dispatched d (Service.ReleaseResource (Some r)) never h = releases_dispatched d h never
    effect_dispatched d (Service.LoadShared r i) never h = h
    effect_dispatched d (Service.StoreShared None i v) never h = h
    effect_dispatched d (Service.StoreShared (Some r) i v) never h = h
    effect_dispatched d (Service.SetEvent None m) never h = h
    effect_dispatched d (Service.SetEvent (Some t) m) never h = event_dispatched t m h never
    effect_dispatched (ByTask t) (Service.ClearEvent m) never h = h
    effect_dispatched ByRoutine (Service.ClearEvent m) never h = h
    effect_dispatched ByNobody (Service.ClearEvent m) never h = h
    effect_dispatched d (Service.GetEvent t) never h = h
    effect_dispatched d (Service.WaitEvent m) never h = absurd (grind arith)
    effect_dispatched d (Service.SetRelAlarm a x y) never h = h
    effect_dispatched d (Service.SetAbsAlarm a x y) never h = h
    effect_dispatched d (Service.CancelAlarm a) never h = h
    effect_dispatched d (Service.GetAlarm a) never h = h
    effect_dispatched d (Service.GetAlarmBase a) never h = h

    effect_settled : (d : KeptCaller) (call : ServiceCall) (outranked : Bool) → may_dispatch outranked call ≡ false → IsSettled S o
        → IsSettled S (effect_in S d o call)
    effect_settled d (Service.ActivateTask None) outranked never s = record { on = s.on; runs = s.runs; no_routine = s.no_routine; none_pending = s.none_pending }
    effect_settled d (Service.ActivateTask (Some t)) outranked never s = record { on = s.on; runs = s.runs; no_routine = s.no_routine; none_pending = s.none_pending }
    effect_settled d Service.TerminateTask outranked never s = absurd (grind arith)
    effect_settled d (Service.ChainTask t) outranked never s = absurd (grind arith)
    effect_settled d Service.Schedule outranked never s = absurd (grind arith)
    effect_settled d (Service.GetResource (Some r)) outranked never s = gets_settled d r s
    effect_settled d (Service.ReleaseResource None) outranked never s = record { on = s.on; runs = s.runs; no_routine = s.no_routine; none_pending = s.none_pending }
    effect_settled d (Service.ReleaseResource (Some r)) outranked never s = releases_settled d s
    effect_settled d (Service.SetEvent None m) outranked never s = record { on = s.on; runs = s.runs; no_routine = s.no_routine; none_pending = s.none_pending }
    effect_settled d (Service.SetEvent (Some t) m) outranked never s = event_settled t m s
    effect_settled (ByTask t) (Service.ClearEvent m) outranked never s = record { on = s.on; runs = s.runs; no_routine = s.no_routine; none_pending = s.none_pending }
    effect_settled ByRoutine (Service.ClearEvent m) outranked never s = s
    effect_settled ByNobody (Service.ClearEvent m) outranked never s = s
    effect_settled d (Service.WaitEvent m) outranked never s = absurd (grind arith)
    effect_settled d (Service.StoreShared (Some r) i v) outranked never s = record { on = s.on; runs = s.runs; no_routine = s.no_routine; none_pending = s.none_pending }
    effect_settled d (Service.StoreShared None i v) outranked never s = record { on = s.on; runs = s.runs; no_routine = s.no_routine; none_pending = s.none_pending }
    effect_settled d Service.GetTaskId outranked never s = record { on = s.on; runs = s.runs; no_routine = s.no_routine; none_pending = s.none_pending }
    effect_settled d (Service.GetTaskState t) outranked never s = record { on = s.on; runs = s.runs; no_routine = s.no_routine; none_pending = s.none_pending }
    effect_settled d (Service.GetResource None) outranked never s = record { on = s.on; runs = s.runs; no_routine = s.no_routine; none_pending = s.none_pending }
    effect_settled d (Service.LoadShared r i) outranked never s = record { on = s.on; runs = s.runs; no_routine = s.no_routine; none_pending = s.none_pending }
    effect_settled d (Service.GetEvent t) outranked never s = record { on = s.on; runs = s.runs; no_routine = s.no_routine; none_pending = s.none_pending }
    effect_settled d (Service.SetRelAlarm a x y) outranked never s = record { on = s.on; runs = s.runs; no_routine = s.no_routine; none_pending = s.none_pending }
    effect_settled d (Service.SetAbsAlarm a x y) outranked never s = record { on = s.on; runs = s.runs; no_routine = s.no_routine; none_pending = s.none_pending }
    effect_settled d (Service.CancelAlarm a) outranked never s = record { on = s.on; runs = s.runs; no_routine = s.no_routine; none_pending = s.none_pending }
    effect_settled d (Service.GetAlarm a) outranked never s = record { on = s.on; runs = s.runs; no_routine = s.no_routine; none_pending = s.none_pending }
    effect_settled d (Service.GetAlarmBase a) outranked never s = record { on = s.on; runs = s.runs; no_routine = s.no_routine; none_pending = s.none_pending }

    pub served_dispatched_still : (call : ServiceCall) → may_dispatch (is_runner_outranked S (served_in S o call).state) call ≡ false
        → is_dispatched_in S o ≡ true → is_dispatched_in S (served_in S o call).state ≡ true
    unfolding service_in
    served_dispatched_still call never h =
        go (first_refusal ((interrupts_off (bare o), Status.SysDisabled) ∷ refusals_in S (caller_in o) o call)) never
      where
        go : (refusal : Option Status) → may_dispatch (is_runner_outranked S (changed_in S (caller_in o) o call refusal)) call ≡ false
            → is_dispatched_in S (changed_in S (caller_in o) o call refusal) ≡ true
        go None calls = effect_dispatched (caller_in o) call calls h
        go (Some refusal) calls = h

    pub served_settled_still : (call : ServiceCall) (outranked : Bool) → may_dispatch outranked call ≡ false → IsSettled S o
        → IsSettled S (served_in S o call).state
    unfolding service_in
    served_settled_still call outranked never s = go (first_refusal ((interrupts_off (bare o), Status.SysDisabled) ∷ refusals_in S (caller_in o) o call))
      where
        go : (refusal : Option Status) → IsSettled S (changed_in S (caller_in o) o call refusal)
        go None = effect_settled (caller_in o) call outranked never s
        go (Some refusal) = s

-- the values of registers don't change which service it is
pub may_dispatch_at : (x : Context) (call : ServiceCall) (outranked : Bool) → may_dispatch outranked (at_values x call) ≡ may_dispatch outranked call
may_dispatch_at x (Service.ActivateTask t) outranked = refl
may_dispatch_at x Service.TerminateTask outranked = refl
may_dispatch_at x (Service.ChainTask t) outranked = refl
may_dispatch_at x Service.Schedule outranked = refl
may_dispatch_at x Service.GetTaskId outranked = refl
may_dispatch_at x (Service.GetTaskState t) outranked = refl
may_dispatch_at x (Service.GetResource r) outranked = refl
may_dispatch_at x (Service.ReleaseResource r) outranked = refl
may_dispatch_at x (Service.LoadShared r i) outranked = refl
may_dispatch_at x (Service.StoreShared r i v) outranked = refl
may_dispatch_at x (Service.SetEvent t m) outranked = refl
may_dispatch_at x (Service.ClearEvent m) outranked = refl
may_dispatch_at x (Service.GetEvent t) outranked = refl
may_dispatch_at x (Service.WaitEvent m) outranked = refl
may_dispatch_at x (Service.SetRelAlarm a i c) outranked = refl
may_dispatch_at x (Service.SetAbsAlarm a i c) outranked = refl
may_dispatch_at x (Service.CancelAlarm a) outranked = refl
may_dispatch_at x (Service.GetAlarm a) outranked = refl
may_dispatch_at x (Service.GetAlarmBase a) outranked = refl

-- ---- what stays known behind a service

refused_or_kept : (known refused may : Bool) → (known && (refused || not may)) ≡ true → (known ≡ true) × ((refused ≡ true) ⊎ (may ≡ false))
refused_or_kept true true may h = (refl, inl refl)
refused_or_kept true false false h = (refl, inr refl)
refused_or_kept true false true h = absurd (grind arith)
refused_or_kept false refused may h = absurd (grind arith)

module _ (o n : Objects) (call asked : ServiceCall) (known : Bool) (answer : Answer) (answers : Answers call o n answer)
    (same : (outranked : Bool) → may_dispatch outranked call ≡ may_dispatch outranked asked)
    (stays : (known && (is_refusal answer.status || not (may_dispatch (is_runner_outranked n.system (kept_in n)) asked))) ≡ true) where
  -- what holds where nothing changed, and behind a service that calls for no reschedule
  kept_by : (P : System → Kept → Type 0) → (known ≡ true → P o.system (kept_in o))
      → (may_dispatch (is_runner_outranked o.system (served_in o.system (kept_in o) call).state) call ≡ false → P o.system (kept_in o)
      → P o.system (served_in o.system (kept_in o) call).state) → P n.system (kept_in n)
  kept_by P before behind =
      let outranked : Bool = is_runner_outranked n.system (kept_in n) in
      let both = refused_or_kept known (is_refusal answer.status) (may_dispatch outranked asked) stays in
      let was = before both.0 in
      subst (λ S. P S (kept_in n)) (sym answers.system)
      (subst (P o.system) (sym answers.kept)
      (elim both.1 [
        | inl refused ↦
            subst (P o.system) (sym (refused_service o.system (kept_in o) call (ap is_refusal (sym answers.status) ∙ refused))) was
        | inr may ↦
            behind
            (ap (λ b. may_dispatch b call) (sym (ap₂ (λ S k. is_runner_outranked S k) answers.system answers.kept))
            ∙ same outranked ∙ may) was
      ]))

  pub served_dispatched : (known ≡ true → is_dispatched_in o.system (kept_in o) ≡ true) → is_dispatched_in n.system (kept_in n) ≡ true
  served_dispatched before = kept_by (λ S k. is_dispatched_in S k ≡ true) before (served_dispatched_still o.system (kept_in o) call)

  pub served_settled : (known ≡ true → IsSettled o.system (kept_in o)) → IsSettled n.system (kept_in n)
  served_settled before =
      kept_by IsSettled before
      (served_settled_still o.system (kept_in o) call (is_runner_outranked o.system (served_in o.system (kept_in o) call).state))

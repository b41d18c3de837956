-- After a reschedule with no routine active and interrupts on, the running task is the one that is to run.
use Rattle.std.proofs.Common.{◌≡◌, ℕ, suc, inr, Bool, true, false, cond, not, ◌&&◌, ◌||◌, nat_le, nat_lt, List, [], refl, sym, ◌∙◌, ap, ap₂, arith}
use Rattle.std.specs.Prelude.{Option, Some, None, is_some}
use Rattle.osek_base.specs.System.{System}
use Rattle.osek_base.specs.Ceiling.{internal_ceiling, top_priority}
use Rattle.osek_base.specs.State.{State}
use Rattle.osek_base.proofs.PlaceLemmas.{and_split}
use Rattle.osek_base.specs.Reschedule.{reschedule}
use Rattle.law_runs.proofs.Foremost.{self_equal}
use Rattle.law_runs.proofs.RankedMoves.{IsAfterReschedule, reschedule_ordered}
use Rattle.law_kept.specs.Kept.{Kept, Slot, kept}
use Rattle.ready_queues.specs.QueueMoves.{changed_at, first, highest, put_oldest}
use Rattle.law_kept.specs.Moves.{KeptRecorded, chosen, contender, contender_of, dispatched, dynamic_in, may_dispatch_in, rescheduled, slot_entered, stays}
use Rattle.law_kept.specs.KeptService.{is_above}
use Rattle.law_kept.specs.Standing.{IsStanding, is_overtaken, is_overtaken_by, runner_waits, waits_in}
use Rattle.law_kept.proofs.Runner.{unwaiting}
use Rattle.law_kept.proofs.Serving.{not_overtaken}
use Rattle.law_kept.proofs.Standing.{reschedule_stands}
use Rattle.law_kept.proofs.Words.{with_words, rescheduled_words}
use Rattle.services.specs.Objects.{Objects, Stands, kept_in}
use Rattle.services.specs.Dispatched.{IsCore, has_entered, is_dispatched_by, is_dispatched_in}
use Rattle.services.proofs.DispatchedLemmas.{rescheduled_again}

entered_is : (b : Bool) → (cond b b (not b)) ≡ true
entered_is true = refl
entered_is false = refl

module _ (S : System) where
  -- a running task that has entered, doesn't wait and isn't overtaken
  runs_as : (n : Kept) (t : ℕ) → n.running ≡ Some t → n.gone ≡ false → has_entered S t (n.slots t) ≡ true
      → runner_waits n ≡ false → is_overtaken S n ≡ false → is_dispatched_in S n ≡ true
  runs_as n t runs stays entered waits behind =
      let top : Option ℕ = highest (suc (top_priority S)) n.queues in
      let unwaits : is_some (n.slots t).waits_for ≡ false =
      sym (ap₂ (λ (r : Option ℕ) (g : Bool). waits_in r g n.slots) runs stays) ∙ waits in
      let contends : contender n ≡ Some t =
      ap₂ (λ (r : Option ℕ) (g : Bool). contender_of r g n.slots) runs stays ∙ ap (λ b. cond b None (Some t)) unwaits in
      let low : is_above (dynamic_in S t (n.slots t)) top ≡ false = sym (ap (λ c. is_overtaken_by S c n) contends) ∙ behind in
      ap₂ (λ (r : Option ℕ) (g : Bool). is_dispatched_by S r g n.slots top) runs stays
      ∙ ap (λ w. not w && (has_entered S t (n.slots t) && not (is_above (dynamic_in S t (n.slots t)) top))) unwaits
      ∙ ap (λ e. e && not (is_above (dynamic_in S t (n.slots t)) top)) entered
      ∙ ap not low

  -- a task that enters running has entered
  has_entered_so : (slots : ℕ → Slot) (t : ℕ) → has_entered S t (changed_at slots t (slot_entered S t (slots t)) t) ≡ true
  has_entered_so slots t =
      ap (λ b. has_entered S t (cond b (slot_entered S t (slots t)) (slots t))) (self_equal t)
      ∙ entered_is (is_some (internal_ceiling S t))

  module _ (o : Kept) where
    -- a task that contends is the running one, and stands
    contends_so : (r : Option ℕ) (g : Bool) (t : ℕ) → contender_of r g o.slots ≡ Some t → (r ≡ Some t) × (g ≡ false)
    contends_so None g t h = absurd (let clash : None ≡ Some t = h in cc)
    contends_so (Some u) true t h = absurd (let clash : None ≡ Some t = h in cc)
    contends_so (Some u) false t h = go (is_some (o.slots u).waits_for) h
      where
        go : (b : Bool) → cond b None (Some u) ≡ Some t → (Some u ≡ Some t) × (false ≡ false)
        go true e = absurd (let clash : None ≡ Some t = e in cc)
        go false e = (e, refl)

    entered_dispatched : (l : ℕ) (q : ℕ → List ℕ) → runner_waits (dispatched S l q o).state ≡ false → is_overtaken S (dispatched S l q o).state ≡ false
        → is_dispatched_in S (dispatched S l q o).state ≡ true
    entered_dispatched l q waits behind = runs_as (dispatched S l q o).state (first (q l)) refl refl (has_entered_so o.slots (first (q l))) waits behind

    stays_dispatched : (t : ℕ) → contender o ≡ Some t → runner_waits (stays S t o).state ≡ false → is_overtaken S (stays S t o).state ≡ false
        → is_dispatched_in S (stays S t o).state ≡ true
    stays_dispatched t contends waits behind =
        let so = contends_so o.running o.gone t contends in
        runs_as (stays S t o).state t so.0 so.1 (has_entered_so o.slots t) waits behind

    chosen_dispatched : (c : Option ℕ) → contender o ≡ c → (top : Option ℕ) → highest (suc (top_priority S)) o.queues ≡ top
        → runner_waits (chosen S c top o).state ≡ false → is_overtaken S (chosen S c top o).state ≡ false
        → is_dispatched_in S (chosen S c top o).state ≡ true
    chosen_dispatched None contends None none waits behind = ap (λ t. not (is_some t)) none
    chosen_dispatched None contends (Some l) some waits behind = entered_dispatched l o.queues waits behind
    chosen_dispatched (Some t) contends None none waits behind = stays_dispatched t contends waits behind
    chosen_dispatched (Some t) contends (Some l) some waits behind = go (nat_le l (dynamic_in S t (o.slots t))) waits behind
      where
        preempting : KeptRecorded
        preempting = dispatched S l (put_oldest o.queues (dynamic_in S t (o.slots t)) t) o

        go : (b : Bool) → runner_waits (cond b (stays S t o) preempting).state ≡ false → is_overtaken S (cond b (stays S t o) preempting).state ≡ false
            → is_dispatched_in S (cond b (stays S t o) preempting).state ≡ true
        go true w h = stays_dispatched t contends w h
        go false w h = entered_dispatched l (put_oldest o.queues (dynamic_in S t (o.slots t)) t) w h

    reschedule_dispatched : may_dispatch_in o ≡ true → runner_waits (rescheduled S o).state ≡ false → is_overtaken S (rescheduled S o).state ≡ false
        → is_dispatched_in S (rescheduled S o).state ≡ true
    unfolding rescheduled
    reschedule_dispatched may = go (may_dispatch_in o) may
      where
        all : KeptRecorded
        all = chosen S (contender o) (highest (suc (top_priority S)) o.queues) o

        go : (b : Bool) → b ≡ true → runner_waits (cond b all (record { events = []; state = o })).state ≡ false
            → is_overtaken S (cond b all (record { events = []; state = o })).state ≡ false
            → is_dispatched_in S (cond b all (record { events = []; state = o })).state ≡ true
        go true e waits behind = chosen_dispatched (contender o) refl (highest (suc (top_priority S)) o.queues) refl waits behind
        go false e waits behind = absurd (grind arith)

  -- the same of what is kept of a state
  pub state_dispatched : (s : State) → IsStanding S s → may_dispatch_in (kept S s) ≡ true → is_dispatched_in S (rescheduled S (kept S s)).state ≡ true
  state_dispatched s standing may =
      let law = reschedule_stands S s standing in
      let after : IsAfterReschedule S s (reschedule S s).state = reschedule_ordered S s standing.single standing.ranked (inr may) in
      let is : kept S (reschedule S s).state ≡ (rescheduled S (kept S s)).state = ap (λ (r : KeptRecorded). r.state) law.1 in
      reschedule_dispatched (kept S s) may
      (ap runner_waits (sym is) ∙ unwaiting S (reschedule S s).state law.0.single after.ordered.ready)
      (ap (is_overtaken S) (sym is) ∙ not_overtaken S (reschedule S s).state law.0.single after.ordered.ready (after.dispatched may))

  -- and of objects that stand for one
  objects_dispatched : (o : Kept) (s : State) → IsStanding S s → with_words s.words o ≡ kept S s → may_dispatch_in o ≡ true
      → is_dispatched_in S (rescheduled S o).state ≡ true
  objects_dispatched o s standing same may =
      let is : (rescheduled S (kept S s)).state ≡ with_words s.words (rescheduled S o).state =
      ap (λ k. (rescheduled S k).state) (sym same) ∙ ap (λ (r : KeptRecorded). r.state) (rescheduled_words S s.words o) in
      sym (ap (is_dispatched_in S) is) ∙ state_dispatched s standing (sym (ap may_dispatch_in same) ∙ may)

-- what is known after a reschedule
pub core_rescheduled : (o n : Objects) (was settled : Bool) → n.system ≡ o.system → IsCore o was settled → kept_in n ≡ (rescheduled o.system (kept_in o)).state
    → (was || may_dispatch_in (kept_in o)) ≡ true → is_dispatched_in n.system (kept_in n) ≡ true
core_rescheduled o n true settled system core new known =
    ap₂ is_dispatched_in system (new ∙ ap (λ (r : KeptRecorded). r.state) (rescheduled_again o.system (kept_in o) (core.dispatched refl))) ∙ core.dispatched refl
core_rescheduled o n false settled system core new known = go core.stands
  where
    go : Stands o → is_dispatched_in n.system (kept_in n) ≡ true
    go (s, stands) =
        ap₂ is_dispatched_in system new ∙ objects_dispatched o.system (kept_in o) s stands.standing stands.same known

-- ---- a reschedule starts and ends no routine

none_of : {X : Type 0} (a : Option X) → not (is_some a) ≡ true → a ≡ None
none_of None h = refl
none_of (Some x) h = absurd (grind arith)

chosen_active : (S : System) (running level : Option ℕ) (o : Kept) → (chosen S running level o).state.active ≡ o.active
chosen_active S None None o = refl
chosen_active S None (Some l) o = refl
chosen_active S (Some t) None o = refl
chosen_active S (Some t) (Some l) o = go (nat_le l (dynamic_in S t (o.slots t)))
  where
    go : (b : Bool) → (cond b (stays S t o) (dispatched S l (put_oldest o.queues (dynamic_in S t (o.slots t)) t) o)).state.active ≡ o.active
    go true = refl
    go false = refl

-- so none is active behind one that could dispatch
pub no_routine_behind : (S : System) (o : Kept) → may_dispatch_in o ≡ true → (rescheduled S o).state.active ≡ None
unfolding rescheduled
no_routine_behind S o may =
    go (may_dispatch_in o) may
    ∙ none_of o.active (and_split (not (is_some o.active)) (not (o.disabled || nat_lt 0 o.suspended_all || nat_lt 0 o.suspended_os)) may).0
  where
    go : (b : Bool) → b ≡ true
        → (cond b (chosen S (contender o) (highest (suc (top_priority S)) o.queues) o) (record { events = []; state = o })).state.active ≡ o.active
    go true h = chosen_active S (contender o) (highest (suc (top_priority S)) o.queues) o
    go false h = absurd (grind arith)

-- A service leaves no event set that isn't settable.
use Rattle.std.proofs.Common.{◌≡◌, ℕ, zero, suc, ◌+◌, ◌<◌, ◌%◌, min, max, Bool, true, false, cond, ◌&&◌, List, [], ◌∷◌, map, refl, sym, ◌∙◌, ap, subst, arith}
use Rattle.std.specs.Prelude.{Option, Some, None, slice_index, slice_index_or, slice_set, bit_and, bit_or, bit_xor}
use Rattle.std.specs.Int.{bit_at}
use Rattle.std.proofs.lemmas.Nat.Bits.{bit_at-lt, bit_at-zero, bit_at_and, bit_at_or, bit_at_xor}
use Rattle.osek_base.specs.declared.ids.Owner.{Owner}
use Rattle.osek_base.specs.declared.instr.Instr.{Instr}
use Rattle.osek_base.specs.declared.instr.Plain.{Plain}
use Rattle.osek_base.specs.declared.instr.Service.{Service}
use Rattle.osek_base.specs.declared.status.Status.{Status}
use Rattle.osek_base.specs.Activation.{activated, released}
use Rattle.osek_base.specs.Instruction.{Context}
use Rattle.osek_base.specs.Lists.{is_empty}
use Rattle.osek_base.specs.Service.{Caller, JobCalls, NobodyCalls, RoutineCalls, caller_ended, effect, event_awaited, event_set, events_cleared, first_refusal, given_up, is_met, is_outranked, meets, refusals, released_by, reply_to, service, unasked_service, waiting_for, with_caller, with_events}
use Rattle.osek_base.specs.State.{Job, State, interrupts_off, jobs_of, with_job}
use Rattle.osek_base.specs.System.{Alarm, Routine, System, Task, alarm, instruction_at, instruction_in, is_extended, no_alarm, no_routine, no_task, program, routine, task}
use Rattle.osek_base.specs.Tick.{action_call, at_values}
use Rattle.osek_base.specs.Types.{ServiceCall}
use Rattle.law_runs.proofs.Foremost.{self_equal}
use Rattle.law_costs.specs.Settable.{AreSettable, IsSettable, all_of, by_alarms, by_routines, by_tasks, set_for, settable, settable_in, sets_for}
use Rattle.law_costs.proofs.Starts.{released_masks}

-- ---- masks

left_set : (u v : ℕ) → u ≡ 1 → v < 2 → max u v ≡ 1
left_set u v is low = omega (arith, is, low)

right_set : (u v : ℕ) → u < 2 → v ≡ 1 → max u v ≡ 1
right_set u v low is = omega (arith, is, low)

still_set : (u v : ℕ) → (u + min u v) % 2 ≡ 1 → u < 2 → u ≡ 1
still_set zero v is low = omega (arith, is)
still_set (suc zero) v is low = refl
still_set (suc (suc u)) v is low = absurd (omega (arith, low))

module _ (m n b : ℕ) where
  pub first_or : bit_at m b ≡ 1 → bit_at (bit_or m n) b ≡ 1
  first_or is = bit_at_or m n b ∙ left_set (bit_at m b) (bit_at n b) is (bit_at-lt n b)

  pub second_or : bit_at n b ≡ 1 → bit_at (bit_or m n) b ≡ 1
  second_or is = bit_at_or m n b ∙ right_set (bit_at m b) (bit_at n b) (bit_at-lt m b) is

  -- an event of both is one that passes, where those of each do
  either_or : {k : ℕ} → (bit_at m b ≡ 1 → k ≡ 1) → (bit_at n b ≡ 1 → k ≡ 1)
      → bit_at (bit_or m n) b ≡ 1 → k ≡ 1
  either_or {k} one other is =
      go (bit_at m b) (bit_at n b) (sym (bit_at_or m n b) ∙ is) one other
    where
      go : (u v : ℕ) → max u v ≡ 1 → (u ≡ 1 → k ≡ 1) → (v ≡ 1 → k ≡ 1) → k ≡ 1
      go zero v is one other = other (omega (arith, is))
      go (suc zero) v is one other = one refl
      go (suc (suc u)) v is one other = absurd (omega (arith, is))

  cleared_set : bit_at (bit_xor m (bit_and m n)) b ≡ 1 → bit_at m b ≡ 1
  cleared_set is =
      still_set (bit_at m b) (bit_at n b)
      (ap (λ u. (bit_at m b + u) % 2) (sym (bit_at_and m n b))
      ∙ sym (bit_at_xor m (bit_and m n) b) ∙ is)
      (bit_at-lt m b)

-- of each task, where one is replaced
each_set : (P : ℕ → ℕ → Type 0) (masks : List ℕ) (t m : ℕ) → P t m
    → ((u : ℕ) → P u (slice_index masks u)) → (u : ℕ) → P u (slice_index (slice_set masks t m) u)
each_set P [] t m new each u = each u
each_set P (x ∷ masks) zero m new each zero = new
each_set P (x ∷ masks) zero m new each (suc u) = each (suc u)
each_set P (x ∷ masks) (suc t) m new each zero = each zero
each_set P (x ∷ masks) (suc t) m new each (suc u) =
    each_set (λ k. P (suc k)) masks t m new (λ k. each (suc k)) u

-- ---- what a system may set

-- one of a list is among all
among_all : {X : Type 0} (f : X → ℕ) (xs : List X) (i : ℕ) (d : X) (b : ℕ)
    → f d ≡ 0 → bit_at (f (slice_index_or xs i d)) b ≡ 1 → bit_at (all_of (map f xs)) b ≡ 1
among_all f [] i d b none set =
    absurd (let zero_is = bit_at-zero b in
    let same = ap (λ k. bit_at k b) none in omega (arith, set, same, zero_is))
among_all f (x ∷ xs) zero d b none set = first_or (f x) (all_of (map f xs)) b set
among_all f (x ∷ xs) (suc i) d b none set =
    second_or (f x) (all_of (map f xs)) b (among_all f xs i d b none set)

module _ (S : System) (t : ℕ) where
  place_settable : (program : List Instr) (place b : ℕ)
      → bit_at (sets_for t (instruction_in program place)) b ≡ 1
      → bit_at (settable_in t program) b ≡ 1
  place_settable program place b set =
      among_all (sets_for t) program place (Instr.Plain Plain.Nop) b refl set

  -- what an instruction sets, and the action of an alarm, is settable
  pub instruction_settable : (who : Owner) (place : ℕ)
      → IsSettable S t (sets_for t (instruction_at S who place))
  unfolding settable
  instruction_settable (Owner.Task u) place b set =
      first_or (bit_or (by_tasks t S.tasks) (by_routines t S.routines)) (by_alarms t S.alarms) b
      (first_or (by_tasks t S.tasks) (by_routines t S.routines) b
      (among_all (λ (a : Task). settable_in t a.program) S.tasks u no_task b refl
      (place_settable (task S u).program place b set)))
  instruction_settable (Owner.Routine i) place b set =
      first_or (bit_or (by_tasks t S.tasks) (by_routines t S.routines)) (by_alarms t S.alarms) b
      (second_or (by_tasks t S.tasks) (by_routines t S.routines) b
      (among_all (λ (a : Routine). settable_in t a.program) S.routines i no_routine b refl
      (place_settable (routine S i).program place b set)))

  pub action_settable : (a : ℕ) → IsSettable S t (set_for t (action_call (alarm S a).action))
  unfolding settable
  action_settable a b set =
      second_or (bit_or (by_tasks t S.tasks) (by_routines t S.routines)) (by_alarms t S.alarms) b
      (among_all (λ (k : Alarm). set_for t (action_call k.action)) S.alarms a no_alarm b refl set)

-- ---- services

module _ (S : System) where
  pub none_settable : (t : ℕ) → IsSettable S t 0
  none_settable t b set = absurd (let none = bit_at-zero b in omega (arith, set, none))

  pub activated_settable : (t : ℕ) (s : State) → AreSettable S s.masks
      → AreSettable S (activated S t s).masks
  unfolding activated
  activated_settable t s all = go (is_extended S t && is_empty (jobs_of t s.jobs))
    where
      go : (b : Bool) → AreSettable S (cond b (slice_set s.masks t 0) s.masks)
      go true = each_set (IsSettable S) s.masks t 0 (none_settable t) all
      go false = all

  ended_settable : (c : Caller) (s : State) → AreSettable S s.masks
      → AreSettable S (caller_ended c s).masks
  ended_settable (JobCalls j) s all = all
  ended_settable (RoutineCalls a) s all = all
  ended_settable NobodyCalls s all = all

  met_settable : (events : ℕ) (jobs : List Job) (s : State) → AreSettable S s.masks
      → AreSettable S (released_by events jobs s).masks
  met_settable events [] s all = all
  met_settable events (j ∷ jobs) s all = go (is_met events j.waits_for)
    where
      go : (b : Bool) → AreSettable S (cond b (released j.id s) s).masks
      go true = subst (AreSettable S) (sym (released_masks j.id s)) all
      go false = all

  event_settable : (t m : ℕ) (s : State) → IsSettable S t m → AreSettable S s.masks
      → AreSettable S (event_set t m s).masks
  event_settable t m s new all =
      met_settable events (jobs_of t s.jobs) (with_events t events s)
      (each_set (IsSettable S) s.masks t events
      (λ b. either_or (slice_index s.masks t) m b (all t b) (new b)) all)
    where
      events : ℕ
      events = bit_or (slice_index s.masks t) m

  cleared_settable : (c : Caller) (m : ℕ) (s : State) → AreSettable S s.masks
      → AreSettable S (events_cleared c m s).masks
  cleared_settable (JobCalls j) m s all =
      each_set (IsSettable S) s.masks j.id.task (bit_xor set (bit_and set m))
      (λ b is. all j.id.task b (cleared_set set m b is)) all
    where
      set : ℕ
      set = slice_index s.masks j.id.task
  cleared_settable (RoutineCalls a) m s all = all
  cleared_settable NobodyCalls m s all = all

  awaited_settable : (c : Caller) (m : ℕ) (s : State) → AreSettable S s.masks
      → AreSettable S (event_awaited c m s).masks
  awaited_settable (JobCalls j) m s all = go (meets m (slice_index s.masks j.id.task))
    where
      go : (b : Bool) → AreSettable S
          (cond b s (record s { jobs = with_job j.id (waiting_for m) s.jobs })).masks
      go true = all
      go false = all
  awaited_settable (RoutineCalls a) m s all = all
  awaited_settable NobodyCalls m s all = all

  caller_settable : (c : Caller) (change : Job → Job) (s : State) → AreSettable S s.masks
      → AreSettable S (with_caller c change s).masks
  caller_settable (JobCalls j) change s all = all
  caller_settable (RoutineCalls a) change s all = all
  caller_settable NobodyCalls change s all = all

  given_settable : (c : Caller) (s : State) (b : Bool) → AreSettable S s.masks
      → AreSettable S (cond b (with_caller c given_up s) s).masks
  given_settable c s true all = caller_settable c given_up s all
  given_settable c s false all = all

  effect_settable : (c : Caller) (call : ServiceCall) (s : State)
      → ((t : ℕ) → IsSettable S t (set_for t call)) → AreSettable S s.masks
      → AreSettable S (effect S c s call).masks
  effect_settable c (Service.ActivateTask (Some t)) s sets all = activated_settable t s all
  effect_settable c Service.TerminateTask s sets all = ended_settable c s all
  effect_settable c (Service.ChainTask (Some t)) s sets all =
      activated_settable t (caller_ended c s) (ended_settable c s all)
  effect_settable c Service.Schedule s sets all =
      given_settable c s (is_outranked S c s.jobs) all
  effect_settable c (Service.GetResource (Some r)) s sets all = caller_settable c _ s all
  effect_settable c (Service.ReleaseResource (Some r)) s sets all = caller_settable c _ s all
  effect_settable c (Service.StoreShared (Some r) i v) s sets all = all
  effect_settable c (Service.SetEvent (Some t) m) s sets all =
      event_settable t m s
      (subst (λ b. IsSettable S t (cond b m 0)) (self_equal t) (sets t)) all
  effect_settable c (Service.ClearEvent m) s sets all = cleared_settable c m s all
  effect_settable c (Service.WaitEvent m) s sets all = awaited_settable c m s all
  effect_settable c (Service.SetRelAlarm (Some a) increment cycle) s sets all = all
  effect_settable c (Service.SetAbsAlarm (Some a) start cycle) s sets all = all
  effect_settable c (Service.CancelAlarm (Some a)) s sets all = all
  effect_settable c _ s sets all = all

  reply_settable : (c : Caller) (call : ServiceCall) (o : Option Status) (s : State)
      → ((t : ℕ) → IsSettable S t (set_for t call)) → AreSettable S s.masks
      → AreSettable S (reply_to S c s call o).state.masks
  reply_settable c call None s sets all = effect_settable c call s sets all
  reply_settable c call (Some refusal) s sets all = all

  pub service_settable : (c : Caller) (call : ServiceCall) (s : State)
      → ((t : ℕ) → IsSettable S t (set_for t call)) → AreSettable S s.masks
      → AreSettable S (service S c s call).state.masks
  unfolding service
  service_settable c call s sets all =
      reply_settable c call
      (first_refusal ((interrupts_off s, Status.SysDisabled) ∷ refusals S c s call)) s sets all

  pub unasked_settable : (c : Caller) (call : ServiceCall) (s : State)
      → ((t : ℕ) → IsSettable S t (set_for t call)) → AreSettable S s.masks
      → AreSettable S (unasked_service S c s call).state.masks
  unfolding unasked_service
  unasked_settable c call s sets all =
      reply_settable c call (first_refusal (refusals S c s call)) s sets all

  -- what an instruction calls sets the same, whatever its registers
  pub same_sets : (t : ℕ) (x : Context) (call : ServiceCall)
      → set_for t (at_values x call) ≡ set_for t call
  same_sets t x (Service.SetRelAlarm a increment cycle) = refl
  same_sets t x (Service.SetAbsAlarm a start cycle) = refl
  same_sets t x (Service.LoadShared r i) = refl
  same_sets t x (Service.StoreShared r i v) = refl
  same_sets t x _ = refl

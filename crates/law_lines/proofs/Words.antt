-- Registers, words, masks and what alarms have left have 32 bits, and no service changes that.
use Rattle.std.proofs.Common.{ℕ, zero, suc, ◌≡◌, ◌≤◌, ◌+◌, ◌-◌, ◌/◌, ◌%◌, ◌^◌, inl, inr, true, cond, not, ◌&&◌, List, [], ◌∷◌, ◌++◌, map, length, set, get_or, replicate, subst, sym, arith}
use Rattle.std.specs.Prelude.{Option, Some, None, IfSome, nat_le, slice_index, slice_index_or, slice_set, bit_and, bit_or, bit_xor}
use Rattle.std.specs.List.{AllByRecursion, filter}
use Rattle.std.specs.Int.Bits.{and_lt}
use Rattle.std.proofs.Math.Nat.{mod-lt}
use Rattle.std.proofs.lemmas.Bool.{cases_lt, and_parts, leb-true, ltb-true}
use Rattle.std.proofs.lemmas.List.{get_or_past}
use Rattle.std.proofs.lemmas.Nat.{or_lt, xor_lt}
use Rattle.osek_base.specs.declared.ids.Owner.{Owner}
use Rattle.osek_base.specs.declared.ids.ResId.{ResId}
use Rattle.osek_base.specs.declared.instr.Service.{Service}
use Rattle.osek_base.specs.declared.limits.TheConstants.{MAX_COUNTS, SHARED_WORDS}
use Rattle.osek_base.specs.declared.status.Status.{Status}
use Rattle.osek_base.specs.declared.task.Counter.{Counter}
use Rattle.osek_base.specs.Activation.{activated, new_job, released, woken}
use Rattle.osek_base.specs.Alarm.{count, next_count}
use Rattle.osek_base.specs.Lists.{is_empty}
use Rattle.osek_base.specs.Proper.{IsProper, is_proper_counter, is_word}
use Rattle.osek_base.specs.Service.{Caller, JobCalls, RoutineCalls, NobodyCalls, caller_ended, effect, event_awaited, event_set, events_cleared, first_refusal, gets, given_up, is_met, is_outranked, meets, refusals, released_by, releases, reply_to, service, unasked_service, waiting_for, with_caller, with_events}
use Rattle.osek_base.specs.State.{Active, Expiry, Job, JobId, State, interrupts_off, jobs_but, jobs_of, same_id, shared_window, with_job, with_shared}
use Rattle.osek_base.specs.System.{System, counter, counter_of, is_extended, no_counter}
use Rattle.osek_base.specs.Types.{ServiceCall}
use Rattle.osek_base.proofs.PlaceLemmas.{all_at}
use Rattle.law_lines.specs.HeldWords.{IsWord, AreWords, IsNear}
use Rattle.law_runs.proofs.Lists.{all_append, all_kept, all_map, cond_both}

-- ---- lists

pub each_at : {X : Type 0} (P : X → Type 0) (xs : List X) (i : ℕ) (d : X) → P d
    → AllByRecursion P xs → P (get_or xs i d)
each_at P [] i d past all = past
each_at P (x ∷ xs) zero d past all = all.0
each_at P (x ∷ xs) (suc i) d past all = each_at P xs i d past all.1

pub each_set : {X : Type 0} (P : X → Type 0) (xs : List X) (i : ℕ) (y : X) → P y
    → AllByRecursion P xs → AllByRecursion P (set xs i y)
each_set P [] i y new all = tt
each_set P (x ∷ xs) zero y new all = (new, all.1)
each_set P (x ∷ xs) (suc i) y new all = (all.0, each_set P xs i y new all.1)

pub word_at : (values : List ℕ) (i : ℕ) → AreWords values → IsWord (slice_index values i)
word_at values i all = each_at IsWord values i 0 (omega arith) all

pub no_words : (n : ℕ) → AreWords (replicate n 0)
no_words zero = tt
no_words (suc n) = (omega arith, no_words n)

-- ---- alarms

near_set : (P : ℕ → Option Expiry → Type 0) (es : List (Option Expiry)) (a : ℕ) (e : Option Expiry)
    → P a e
    → ((b : ℕ) → P b (get_or es b None)) → (b : ℕ) → P b (get_or (set es a e) b None)
near_set P [] a e new each b = each b
near_set P (x ∷ es) zero e new each zero = new
near_set P (x ∷ es) zero e new each (suc b) = each (suc b)
near_set P (x ∷ es) (suc a) e new each zero = each zero
near_set P (x ∷ es) (suc a) e new each (suc b) =
    near_set (λ k. P (suc k)) es a e new (λ k. each (suc k)) b

pub record IsSmall (c : Counter) : Type 0 where
  pub most : c.max_allowed_value ≤ MAX_COUNTS
  pub least : c.min_cycle ≤ MAX_COUNTS
  pub base : IsWord c.ticks_per_base

small_counter : (c : Counter) → is_proper_counter c ≡ true → IsSmall c
small_counter c proper =
    let based = and_parts _ (is_word c.ticks_per_base) proper in
    let cycled = and_parts _ (nat_le c.min_cycle c.max_allowed_value) (and_parts _ _ based.0).0 in
    let highest = leb-true c.max_allowed_value MAX_COUNTS
    (and_parts (nat_le 1 c.max_allowed_value) _ (and_parts _ (nat_le 1 c.min_cycle) cycled.0).0).1
    in
    let lowest = leb-true c.min_cycle c.max_allowed_value cycled.1 in
    let base = ltb-true c.ticks_per_base (2 ^ 32) based.1 in
    record { most = highest; least = omega (arith, highest, lowest); base = base }

-- also of a counter that isn't declared
pub any_counter : (S : System) (c : ℕ) → IsProper S → IsSmall (counter S c)
any_counter S c proper = elim (cases_lt c (length S.counters)) [
  | inl inside ↦
      small_counter (counter S c)
      (all_at is_proper_counter S.counters c no_counter inside
      (and_parts _ _ (and_parts _ _ proper.objects).0).1)
  | inr past ↦
      subst IsSmall (sym (get_or_past S.counters c no_counter past))
      (record { most = omega arith; least = omega arith; base = omega arith })
]

next_near : (c : Counter) (n start cycle : ℕ) → c.max_allowed_value ≤ MAX_COUNTS → IsWord cycle
    → IsNear n (Some (record { count = next_count c n start; cycle = cycle }))
next_near c n start cycle most word =
    let round = c.max_allowed_value + 1 in
    let rest = mod-lt (start + (round - (n + 1) % round)) {m = round} (omega arith) in
    (omega (arith, rest, most), word)

-- ---- states

abbrev pub IsWordJob : Job → Type 0
IsWordJob j = AreWords j.context.registers

-- what services may change, where alarms count from a tick
pub record AreWordObjects (S : System) (tick : ℕ) (js : List Job) (windows : List (List ℕ))
    (events : List ℕ) (es : List (Option Expiry)) : Type 0 where
  pub jobs : AllByRecursion IsWordJob js
  pub shared : AllByRecursion AreWords windows
  pub masks : AreWords events
  pub alarms : (a : ℕ) → IsNear (tick / (counter_of S a).ticks_per_base) (slice_index_or es a None)

abbrev pub HasWordObjects : System → ℕ → State → Type 0
HasWordObjects S tick s = AreWordObjects S tick s.jobs s.shared s.masks s.alarms

pub record AreAllWords (S : System) (tick : ℕ) (js : List Job) (windows : List (List ℕ))
    (events : List ℕ) (es : List (Option Expiry)) (routine : Option Active)
    (memory : Owner → ℕ → ℕ) : Type 0 where
  pub objects : AreWordObjects S tick js windows events es
  pub active : IfSome routine (λ a. AreWords a.context.registers)
  pub words : (who : Owner) (i : ℕ) → IsWord (memory who i)

-- all numbers that programs can reach
abbrev pub HasWords : System → State → Type 0
HasWords S s = AreAllWords S s.tick s.jobs s.shared s.masks s.alarms s.active s.words

-- the operands of a service at the values of its registers
abbrev pub AreOperands : ServiceCall → Type 0
AreOperands (Service.StoreShared r i v) = IsWord v
AreOperands (Service.SetEvent t m) = IsWord m
AreOperands (Service.ClearEvent m) = IsWord m
AreOperands (Service.SetRelAlarm a increment cycle) = IsWord increment × IsWord cycle
AreOperands (Service.SetAbsAlarm a start cycle) = IsWord cycle
AreOperands _ = Unit {0}

pub jobs_changed : (n : JobId) (f : Job → Job) (jobs : List Job)
    → ((j : Job) → IsWordJob j → IsWordJob (f j))
    → AllByRecursion IsWordJob jobs → AllByRecursion IsWordJob (with_job n f jobs)
jobs_changed n f jobs keeps all =
    all_map IsWordJob IsWordJob (λ j. cond (same_id j.id n) (f j) j) jobs
    (λ j h. cond_both IsWordJob (same_id j.id n) (f j) j (keeps j h) h) all

module _ (S : System) (now : ℕ) where
  module _ (s : State) (h : HasWordObjects S now s) where
    pub of_jobs : (jobs : List Job) → AllByRecursion IsWordJob jobs
        → HasWordObjects S now (record s { jobs = jobs })
    of_jobs jobs all = record { jobs = all; shared = h.shared; masks = h.masks; alarms = h.alarms }

    of_masks : (masks : List ℕ) → AreWords masks
        → HasWordObjects S now (record s { masks = masks })
    of_masks masks all =
        record { jobs = h.jobs; shared = h.shared; masks = all; alarms = h.alarms }

    of_alarm : (a : ℕ) (e : Option Expiry) → IsNear (now / (counter_of S a).ticks_per_base) e
        → HasWordObjects S now (record s { alarms = slice_set s.alarms a e })
    of_alarm a e near = record {
      jobs = h.jobs;
      shared = h.shared;
      masks = h.masks;
      alarms = near_set (λ b. IsNear (now / (counter_of S b).ticks_per_base)) s.alarms a e near
          h.alarms;
    }

    of_stored : (r i v : ℕ) → IsWord v
        → HasWordObjects S now (record s { shared = with_shared s.shared r i v })
    of_stored r i v word = record {
      jobs = h.jobs;
      shared = each_set AreWords s.shared r
          (slice_set (shared_window s.shared r) (i % SHARED_WORDS) v)
          (each_set IsWord (shared_window s.shared r) (i % SHARED_WORDS) v word
          (each_at AreWords s.shared r [] tt h.shared))
          h.shared;
      masks = h.masks;
      alarms = h.alarms;
    }

    of_caller : (c : Caller) (f : Job → Job) → ((j : Job) → IsWordJob j → IsWordJob (f j))
        → HasWordObjects S now (with_caller c f s)
    of_caller (JobCalls j) f keeps =
        of_jobs (with_job j.id f s.jobs) (jobs_changed j.id f s.jobs keeps h.jobs)
    of_caller (RoutineCalls a) f keeps = h
    of_caller NobodyCalls f keeps = h

    of_ended : (c : Caller) → HasWordObjects S now (caller_ended c s)
    of_ended (JobCalls j) =
        of_jobs (jobs_but j.id s.jobs)
        (all_kept IsWordJob (λ k. not (same_id k.id j.id)) s.jobs h.jobs)
    of_ended (RoutineCalls a) = h
    of_ended NobodyCalls = h

    of_cleared : (c : Caller) (m : ℕ) → IsWord m → HasWordObjects S now (events_cleared c m s)
    of_cleared (JobCalls j) m word =
        let set = slice_index s.masks j.id.task in
        let old = word_at s.masks j.id.task h.masks in
        of_masks (slice_set s.masks j.id.task (bit_xor set (bit_and set m)))
        (each_set IsWord s.masks j.id.task (bit_xor set (bit_and set m))
        (xor_lt 32 set (bit_and set m) old (and_lt 32 set m old word)) h.masks)
    of_cleared (RoutineCalls a) m word = h
    of_cleared NobodyCalls m word = h

    of_awaited : (c : Caller) (m : ℕ) → HasWordObjects S now (event_awaited c m s)
    of_awaited (JobCalls j) m =
        cond_both (HasWordObjects S now) (meets m (slice_index s.masks j.id.task)) s
        (with_caller (JobCalls j) (waiting_for m) s) h
        (of_caller (JobCalls j) (waiting_for m) (λ k own. own))
    of_awaited (RoutineCalls a) m = h
    of_awaited NobodyCalls m = h

  pub of_activated : (t : ℕ) (s : State) → HasWordObjects S now s
      → HasWordObjects S now (activated S t s)
  unfolding activated
  of_activated t s h = record {
    jobs = all_append IsWordJob s.jobs (new_job _ ∷ []) h.jobs (no_words 8, tt);
    shared = h.shared;
    masks = cond_both AreWords (is_extended S t && is_empty (jobs_of t s.jobs))
        (slice_set s.masks t 0) s.masks
        (each_set IsWord s.masks t 0 (omega arith) h.masks) h.masks;
    alarms = h.alarms;
  }

  of_released : (n : JobId) (s : State) → HasWordObjects S now s
      → HasWordObjects S now (released n s)
  unfolding released
  of_released n s h =
      of_jobs s h (jobs_but n s.jobs ++ map woken (filter (λ j. same_id j.id n) s.jobs))
      (all_append IsWordJob (jobs_but n s.jobs) (map woken (filter (λ j. same_id j.id n) s.jobs))
      (all_kept IsWordJob (λ j. not (same_id j.id n)) s.jobs h.jobs)
      (all_map IsWordJob IsWordJob woken (filter (λ j. same_id j.id n) s.jobs) (λ j own. own)
      (all_kept IsWordJob (λ j. same_id j.id n) s.jobs h.jobs)))

  of_met : (events : ℕ) (jobs : List Job) (s : State) → HasWordObjects S now s
      → HasWordObjects S now (released_by events jobs s)
  of_met events [] s h = h
  of_met events (j ∷ js) s h =
      cond_both (HasWordObjects S now) (is_met events j.waits_for) (released j.id s) s
      (of_released j.id s h) h

  of_event : (t m : ℕ) (s : State) → HasWordObjects S now s → IsWord m
      → HasWordObjects S now (event_set t m s)
  of_event t m s h word =
      let new = bit_or (slice_index s.masks t) m in
      of_met new (jobs_of t s.jobs) (with_events t new s)
      (of_masks s h (slice_set s.masks t new)
      (each_set IsWord s.masks t new
      (or_lt 32 (slice_index s.masks t) m (word_at s.masks t h.masks) word) h.masks))

module _ (S : System) (proper : IsProper S) (s : State) where
  of_effect : HasWordObjects S s.tick s → (c : Caller) (call : ServiceCall) → AreOperands call
      → HasWordObjects S s.tick (effect S c s call)
  of_effect h c (Service.ActivateTask (Some t)) given = of_activated S s.tick t s h
  of_effect h c Service.TerminateTask given = of_ended S s.tick s h c
  of_effect h c (Service.ChainTask (Some t)) given =
      of_activated S s.tick t (caller_ended c s) (of_ended S s.tick s h c)
  of_effect h c Service.Schedule given =
      cond_both (HasWordObjects S s.tick) (is_outranked S c s.jobs) (with_caller c given_up s) s
      (of_caller S s.tick s h c given_up (λ j own. own)) h
  of_effect h c (Service.GetResource (Some r)) given =
      of_caller S s.tick s h c (gets r) (λ j own. own)
  of_effect h c (Service.ReleaseResource (Some r)) given =
      of_caller S s.tick s h c releases (λ j own. own)
  of_effect h c (Service.StoreShared (Some (ResId.Declared r)) i v) given =
      of_stored S s.tick s h r i v given
  of_effect h c (Service.StoreShared (Some ResId.Scheduler) i v) given = h
  of_effect h c (Service.SetEvent (Some t) m) given = of_event S s.tick t m s h given
  of_effect h c (Service.ClearEvent m) given = of_cleared S s.tick s h c m given
  of_effect h c (Service.WaitEvent m) given = of_awaited S s.tick s h c m
  of_effect h c (Service.SetRelAlarm (Some a) increment cycle) given =
      let word = given.0 in
      of_alarm S s.tick s h a (Some (record { count = count S s a + increment; cycle = cycle }))
      (omega (arith, word), given.1)
  of_effect h c (Service.SetAbsAlarm (Some a) start cycle) given =
      of_alarm S s.tick s h a
      (Some (record
      { count = next_count (counter_of S a) (count S s a) start; cycle = cycle }))
      (next_near (counter_of S a) (count S s a) start cycle (any_counter S _ proper).most given)
  of_effect h c (Service.CancelAlarm (Some a)) given = of_alarm S s.tick s h a None tt
  of_effect h c _ given = h

  of_reply : HasWords S s → (c : Caller) (call : ServiceCall) (o : Option Status)
      → AreOperands call
      → HasWords S (reply_to S c s call o).state
  of_reply h c call None given =
      record { objects = of_effect h.objects c call given; active = h.active; words = h.words }
  of_reply h c call (Some refusal) given = h

  pub of_service : HasWords S s → (c : Caller) (call : ServiceCall) → AreOperands call
      → HasWords S (service S c s call).state
  unfolding service
  of_service h c call given =
      of_reply h c call
      (first_refusal ((interrupts_off s, Status.SysDisabled) ∷ refusals S c s call)) given

  pub of_action : HasWords S s → (call : ServiceCall) → AreOperands call
      → HasWords S (unasked_service S NobodyCalls s call).state
  unfolding unasked_service
  of_action h call given =
      of_reply h NobodyCalls call (first_refusal (refusals S NobodyCalls s call)) given

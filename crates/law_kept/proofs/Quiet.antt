-- Where no alarm is due, none expires; and a tick of a quiet state leaves it as it was.
use Rattle.std.proofs.Common.{◌≡◌, ℕ, zero, suc, ◌+◌, ◌<◌, ◌≤◌, nat_lt, Bool, true, false, cond, List, [], ◌∷◌, ◌++◌, map, take, length, refl, sym, ◌∙◌, ap, ap₂, arith, length-append}
use Rattle.std.specs.Prelude.{Option, None, is_some, slice_index_or}
use Rattle.std.specs.List.{filter}
use Rattle.std.proofs.Math.Seq.{take-length}
use Rattle.std.proofs.Math.Numerals.{add-one}
use Rattle.std.proofs.lemmas.List.{map-append, take_more}
use Rattle.std.proofs.lemmas.List.Elements.{filter-append}
use Rattle.osek_base.specs.declared.trace_event.TraceEvent.{TraceEvent}
use Rattle.osek_base.specs.Lists.{below}
use Rattle.osek_base.specs.System.{System}
use Rattle.osek_base.specs.State.{Active, Expiry, State}
use Rattle.osek_base.specs.Ceiling.{top_priority}
use Rattle.osek_base.specs.Alarm.{expiry, is_due, due_alarms, alarms_advanced, renewed}
use Rattle.osek_base.specs.Tick.{routine_choice}
use Rattle.ready_queues.specs.QueueMoves.{highest}
use Rattle.law_kept.specs.Kept.{Kept}
use Rattle.law_kept.specs.Moves.{KeptRecorded, chosen, contender, contender_of, left_in, may_dispatch_in, nobody, rescheduled}
use Rattle.law_kept.specs.KeptService.{bare, caller_by}
use Rattle.law_kept.specs.KeptTick.{KeptStep, alarm_phase_in, alarms_act_in, and_then_in, arrival_phase_in, before_execution_in, caller_executes_in, execute_phase_in, last_phase_in, routine_started_in, silent_in, start_phase_in, tick_in}
use Rattle.law_kept.specs.Quiet.{IsQuiet, QuietTicks, idle_step, later}

-- ---- none is due

filter_none : (test : ℕ → Bool) (n : ℕ) → ((i : ℕ) → i < n → test i ≡ false) → filter test (below n) ≡ []
filter_none test zero none = refl
filter_none test (suc n) none =
    filter-append test (below n) (n ∷ [])
    ∙ rw (filter_none test n (λ i low. none i (omega (arith, low))), none n (omega arith)) refl

map_read : (alarms : List (Option Expiry)) (n : ℕ) → n ≤ length alarms → map (λ i. slice_index_or alarms i None) (below n) ≡ take n alarms
map_read alarms zero low = refl
map_read alarms (suc n) low =
    map-append (λ i. slice_index_or alarms i None) (below n) (n ∷ [])
    ∙ ap (λ v. v ++ slice_index_or alarms n None ∷ []) (map_read alarms n (omega arith))
    ∙ sym (take_more alarms n None (omega arith)) ∙ ap (λ k. take k alarms) (add-one n)

map_same : (f g : ℕ → Option Expiry) (n : ℕ) → ((i : ℕ) → i < n → f i ≡ g i) → map f (below n) ≡ map g (below n)
map_same f g zero same = refl
map_same f g (suc n) same =
    map-append f (below n) (n ∷ [])
    ∙ ap₂ (λ u v. u ++ v ∷ []) (map_same f g n (λ i low. same i (omega (arith, low)))) (same n (omega arith))
    ∙ sym (map-append g (below n) (n ∷ []))

counted : (test : ℕ → Bool) (n : ℕ)
    → length (filter test (below (suc n))) ≡ length (filter test (below n)) + length (cond (test n) (n ∷ []) [])
counted test n = ap length (filter-append test (below n) (n ∷ [])) ∙ length-append (filter test (below n)) (filter test (n ∷ []))

last_fails : (test : ℕ → Bool) (n : ℕ) → length (filter test (below (suc n))) ≡ 0 → (b : Bool) → test n ≡ b → test n ≡ false
last_fails test n none false is = is
last_fails test n none true is =
    let sizes = counted test n in
    let one : length (cond (test n) (n ∷ []) []) ≡ 1 = rw is refl in
    absurd (omega (arith, none, sizes, one))

all_fail : (test : ℕ → Bool) (n : ℕ) → length (filter test (below n)) ≡ 0 → (i : ℕ) → i < n → test i ≡ false
all_fail test zero none i low = absurd (omega (arith, low))
all_fail test (suc n) none i low =
    let sizes = counted test n in
    go (nat_lt i n) refl (all_fail test n (omega (arith, none, sizes)) i)
  where
    go : (b : Bool) → nat_lt i n ≡ b → (i < n → test i ≡ false) → test i ≡ false
    go true is earlier = earlier (grind (arith, is))
    go false is earlier =
        let same : i ≡ n = grind (arith, low, is) in
        ap test same ∙ last_fails test n none (test n) refl

module _ (S : System) (s : State) (size : length s.alarms ≡ length S.alarms) (not_due : (a : ℕ) → a < length S.alarms → is_due S s a ≡ false) where
  pub nothing_due : due_alarms S s ≡ []
  nothing_due = filter_none (is_due S s) (length S.alarms) not_due

  same_expiry : (a : ℕ) → a < length S.alarms → cond (is_due S s a) (renewed (expiry s a)) (expiry s a) ≡ expiry s a
  same_expiry a low = rw (not_due a low) refl

  pub nothing_advanced : alarms_advanced S s ≡ s.alarms
  nothing_advanced =
      map_same _ (expiry s) (length S.alarms) same_expiry
      ∙ ap (λ n. map (λ i. slice_index_or s.alarms i None) (below n)) (sym size)
      ∙ map_read s.alarms (length s.alarms) (omega arith) ∙ take-length s.alarms

module _ (S : System) (o : Kept) (size : length o.alarms ≡ length S.alarms) (none : due_alarms S (bare o) ≡ []) where
  none_expires : alarms_advanced S (bare o) ≡ o.alarms
  none_expires = nothing_advanced S (bare o) size (all_fail (is_due S (bare o)) (length S.alarms) (ap length none))

  -- no alarm acts
  pub alarm_phase_silent : alarm_phase_in S o ≡ silent_in o
  unfolding alarm_phase_in
  alarm_phase_silent =
      ap₂ (λ due (alarms : List (Option Expiry)). alarms_act_in S due (record o { alarms = alarms })) none none_expires

-- ---- a tick

module _ (S : System) (o : Kept) (quiet : IsQuiet S o) where
  no_contender : contender o ≡ None
  no_contender = ap (λ r. contender_of r o.gone o.slots) quiet.nobody_runs

  nobody_silent : nobody S o ≡ silent_in o
  nobody_silent = λ i. record {
    events = left_in S (quiet.nobody_runs i);
    state = record o { running = sym quiet.nobody_runs i; gone = sym quiet.none_ended i };
  }

  -- a reschedule changes nothing
  pub reschedule_silent : rescheduled S o ≡ silent_in o
  unfolding rescheduled
  reschedule_silent = go (may_dispatch_in o)
    where
      go : (b : Bool) → cond b (chosen S (contender o) (highest (suc (top_priority S)) o.queues) o) (silent_in o) ≡ silent_in o
      go true = ap₂ (λ c l. chosen S c l o) no_contender quiet.none_ready ∙ nobody_silent
      go false = refl

  none_starts : start_phase_in S o ≡ o
  unfolding start_phase_in
  none_starts = go (may_dispatch_in o)
    where
      go : (b : Bool) → cond b (routine_started_in (routine_choice S (bare o)) o) o ≡ o
      go true = ap (λ c. routine_started_in c o) quiet.none_pending
      go false = refl

  pub nobody_executes : execute_phase_in S o ≡ record { events = TraceEvent.Idle ∷ []; state = o }
  unfolding execute_phase_in
  nobody_executes =
      ap₂ (λ (a : Option Active) r. caller_executes_in S (caller_by (is_some a) r o.gone) o) quiet.no_routine quiet.nobody_runs

  pub last_silent : last_phase_in S o ≡ silent_in o
  last_silent = ap (λ over. cond over (silent_in o) (rescheduled S o)) quiet.on ∙ reschedule_silent

  module _ (size : length o.alarms ≡ length S.alarms) (none : due_alarms S (bare o) ≡ []) where
    pub before_silent : before_execution_in S [] o ≡ silent_in o
    before_silent =
        ap (λ (r : KeptRecorded). begun (and_then_in r (λ a. rescheduled S (arrival_phase_in [] a)))) (alarm_phase_silent S o size none)
        ∙ ap (λ (r : KeptRecorded). begun (record { events = [] ++ r.events; state = r.state })) reschedule_silent
        ∙ ap silent_in none_starts
      where
        begun : KeptRecorded → KeptRecorded
        begun r = record { events = r.events; state = start_phase_in S r.state }

    idle_tick : tick_in S [] o ≡ idle_step o
    unfolding tick_in
    idle_tick =
        ap (λ (r : KeptRecorded). ended r (and_then_in (execute_phase_in S r.state) (last_phase_in S))) before_silent
        ∙ ap (λ (r : KeptRecorded). ended (silent_in o) (and_then_in r (last_phase_in S))) nobody_executes
        ∙ ap (λ (r : KeptRecorded). ended (silent_in o) (record { events = (TraceEvent.Idle ∷ []) ++ r.events; state = r.state })) last_silent
      where
        ended : KeptRecorded → KeptRecorded → KeptStep
        ended ready done = record { events = ready.events ++ done.events; after = record done.state { tick = done.state.tick + 1 } }

pub quiet_ticks : QuietTicks
quiet_ticks S o quiet size none = idle_tick S o quiet size none

-- later, it is quiet still
pub quiet_later : (S : System) (o : Kept) (n : ℕ) → IsQuiet S o → IsQuiet S (later n o)
quiet_later S o n quiet = record {
  on = quiet.on;
  nobody_runs = quiet.nobody_runs;
  none_ended = quiet.none_ended;
  none_ready = quiet.none_ready;
  no_routine = quiet.no_routine;
  none_pending = quiet.none_pending;
}

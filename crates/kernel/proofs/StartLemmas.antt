-- Boot: the tasks of the mode are activated in turn, and no alarm of the mode is due at count 0.
use Rattle.std.proofs.Common.{◌≡◌, ℕ, ◌+◌, ◌<◌, ◌≤◌, Bool, true, false, cond, List, [], ◌∷◌, ◌++◌, map, length, refl, sym, ◌∙◌, ap, arith}
use Rattle.std.specs.Prelude.{Option, Some, None, ◌==◌}
use Rattle.std.specs.List.{filter, list_all}
use Rattle.std.proofs.Math.Numerals.{add-one}
use Rattle.std.proofs.lemmas.Bool.{leb-true}
use Rattle.std.proofs.lemmas.List.{append-nil}
use Rattle.std.proofs.lemmas.List.Elements.{filter-append}
use Rattle.osek_base.specs.declared.instr.Service.{Service}
use Rattle.osek_base.specs.declared.task.Counter.{Counter}
use Rattle.osek_base.specs.declared.trace_event.TraceEvent.{TraceEvent}
use Rattle.osek_base.specs.Lists.{below, is_in}
use Rattle.osek_base.specs.System.{System, Alarm, AlarmStart, no_task, counter, activation_of, starts_in, start_in}
use Rattle.osek_base.specs.State.{State, still}
use Rattle.osek_base.specs.Activation.{activated}
use Rattle.osek_base.specs.Reschedule.{hooked, reschedule}
use Rattle.osek_base.specs.Alarm.{is_due_at}
use Rattle.osek_base.specs.Proper.{IsProper, is_proper_task, is_proper_alarm, is_proper_start}
use Rattle.osek_base.specs.Trace.{all_activated, starting_alarms, starting_tasks, first_expiry, boot, run}
use Rattle.osek_base.specs.declared.arrivals.Arrival.{Arrival}
use Rattle.osek_base.proofs.PlaceLemmas.{all_at, and_split}
use Rattle.law_kept.specs.Kept.{Kept, Slot}
use Rattle.ready_queues.specs.QueueMoves.{changed_at}
use Rattle.law_kept.specs.Moves.{activated_in, rescheduled}
use Rattle.law_kept.specs.KeptService.{ByNobody, is_full_in, unasked_in}
use Rattle.law_kept.specs.KeptTick.{all_activated_in, begun_in, boot_in}
use Rattle.kernel.specs.Processor.{AreAhead}

-- ---- alarms

first_after : (S : System) (c : Counter) (mode : ℕ) (start : Option AlarmStart) → is_proper_start S c start ≡ true
    → is_due_at 0 (first_expiry (start_in mode start)) ≡ false
first_after S c mode None h = refl
first_after S c mode (Some s) h = go (is_in mode s.modes)
  where
    later : 1 ≤ s.time
    later = leb-true _ _ (and_split _ _ (and_split _ _ (and_split _ _ h).0).0).0

    go : (b : Bool) → is_due_at 0 (first_expiry (cond b (Some (s.time, s.cycle)) None)) ≡ false
    go false = refl
    go true = grind (arith, later)

ahead_all : (S : System) (mode : ℕ) (alarms : List Alarm) → list_all (is_proper_alarm S) alarms ≡ true
    → AreAhead (map (λ a. first_expiry (start_in mode a.autostart)) alarms)
ahead_all S mode [] h = refl
ahead_all S mode (a ∷ rest) h =
    let parts = and_split _ _ h in
    let none : is_due_at 0 (first_expiry (start_in mode a.autostart)) ≡ false =
    first_after S (counter S a.counter) mode a.autostart (and_split _ _ parts.0).1 in
    rw none (ahead_all S mode rest parts.1)

-- the alarms of a mode are ahead of count 0
pub starting_ahead : (S : System) (mode : ℕ) → IsProper S → AreAhead (starting_alarms S mode)
starting_ahead S mode h = ahead_all S mode S.alarms (and_split _ _ h.objects).1

-- the alarms before the first tick are those that start with the mode
alarms_activated : (S : System) (ts : List ℕ) (s : State) → (all_activated S ts s).alarms ≡ s.alarms
unfolding activated
alarms_activated S [] s = refl
alarms_activated S (t ∷ ts) s = alarms_activated S ts (activated S t s)

alarms_rescheduled : (S : System) (s : State) → (reschedule S s).state.alarms ≡ s.alarms
unfolding reschedule
alarms_rescheduled S s = refl

alarms_boot : (S : System) (mode : ℕ) → (boot S mode).state.alarms ≡ starting_alarms S mode
unfolding boot
alarms_boot S mode =
    alarms_rescheduled S _ ∙ alarms_activated S (starting_tasks S mode) (record (still S) { alarms = starting_alarms S mode })

pub alarms_begun : (S : System) (mode : ℕ) (arrivals : List Arrival) → (run S mode arrivals 0).state.alarms ≡ starting_alarms S mode
unfolding run
alarms_begun S mode arrivals = alarms_boot S mode

-- ---- tasks

tasks_proper : (S : System) → IsProper S → list_all (is_proper_task S) S.tasks ≡ true
tasks_proper S h =
    let alarms = and_split _ _ h.objects in
    let counters = and_split _ _ alarms.0 in
    let events = and_split _ _ counters.0 in
    let routines = and_split _ _ events.0 in
    (and_split _ _ routines.0).1

some_activation : (S : System) (t : ℕ) → IsProper S → t < length S.tasks → 1 ≤ activation_of S t
some_activation S t h low =
    let proper = all_at (is_proper_task S) S.tasks t no_task low (tasks_proper S h) in
    let activation = (and_split _ _ (and_split _ _ (and_split _ _ (and_split _ _ proper).0).0).0).0 in
    leb-true _ _ (and_split _ _ (and_split _ _ activation).0).0

-- ActivateTask of a task without a job
serves : (S : System) (t : ℕ) (o : Kept) → IsProper S → t < length S.tasks → (o.slots t).count ≡ 0
    → (unasked_in S ByNobody o (Service.ActivateTask (Some t))).state ≡ activated_in S t o
unfolding unasked_in
serves S t o proper low none =
    let some : 1 ≤ activation_of S t = some_activation S t proper low in
    let fits : is_full_in S o t ≡ false = grind (arith, some, none) in
    rw fits refl

activated_last : (S : System) (ts : List ℕ) (t : ℕ) (o : Kept) → all_activated_in S (ts ++ t ∷ []) o ≡ activated_in S t (all_activated_in S ts o)
activated_last S [] t o = refl
activated_last S (u ∷ ts) t o = activated_last S ts t (activated_in S u o)

below_more : (S : System) (mode n : ℕ) (b : Bool) → starts_in S mode n ≡ b
    → filter (starts_in S mode) (below (n + 1)) ≡ filter (starts_in S mode) (below n) ++ cond b (n ∷ []) []
below_more S mode n true e =
    ap (λ k. filter (starts_in S mode) (below k)) (add-one n) ∙ filter-append (starts_in S mode) (below n) (n ∷ []) ∙ rw e refl
below_more S mode n false e =
    ap (λ k. filter (starts_in S mode) (below k)) (add-one n) ∙ filter-append (starts_in S mode) (below n) (n ∷ []) ∙ rw e refl

-- the tasks of the mode below n are activated, and none from n on has a job
pub record AreStarting (S : System) (mode n : ℕ) (o : Kept) : Type 0 where
  pub none : (t : ℕ) → n ≤ t → (o.slots t).count ≡ 0
  pub kept : o ≡ all_activated_in S (filter (starts_in S mode) (below n)) (begun_in S mode)

pub starting_none : (S : System) (mode : ℕ) (o : Kept) → o ≡ begun_in S mode → AreStarting S mode 0 o
starting_none S mode o is = record {
  none = λ t low. ap (λ (v : Kept). (v.slots t).count) is;
  kept = is;
}

others : (o : Kept) (n t : ℕ) (slot : Slot) → n + 1 ≤ t → changed_at o.slots n slot t ≡ o.slots t
others o n t slot higher = let other : (n == t) ≡ false = grind (arith, higher) in rw other refl

-- one task more, that starts, or that doesn't
pub starting_more : (S : System) (mode n : ℕ) (o after : Kept) → AreStarting S mode n o → IsProper S → n < length S.tasks
    → starts_in S mode n ≡ true
    → after ≡ (unasked_in S ByNobody o (Service.ActivateTask (Some n))).state
    → AreStarting S mode (n + 1) after
starting_more S mode n o after h proper low starts served =
    let one : after ≡ activated_in S n o = served ∙ serves S n o proper low (h.none n (omega arith)) in
    record {
      none = λ t higher.
          ap (λ (v : Kept). (v.slots t).count) one ∙ ap (λ (a : Slot). a.count) (others o n t _ higher) ∙ h.none t (omega arith);
      kept =
          one ∙ ap (activated_in S n) h.kept
          ∙ sym (activated_last S (filter (starts_in S mode) (below n)) n (begun_in S mode))
          ∙ ap (λ v. all_activated_in S v (begun_in S mode)) (sym (below_more S mode n true starts));
    }

pub starting_same : (S : System) (mode n : ℕ) (o : Kept) → AreStarting S mode n o → starts_in S mode n ≡ false
    → AreStarting S mode (n + 1) o
starting_same S mode n o h starts = record {
  none = λ t low. h.none t (omega arith);
  kept =
      h.kept
      ∙ ap (λ v. all_activated_in S v (begun_in S mode))
      (sym (below_more S mode n false starts ∙ append-nil (filter (starts_in S mode) (below n))));
}

pub boot_is : (S : System) (mode : ℕ)
    → boot_in S mode
    ≡ (let started = rescheduled S (all_activated_in S (starting_tasks S mode) (begun_in S mode)) in
    record { events = hooked S.hooks.startup TraceEvent.Startup ++ started.events; state = started.state })
unfolding boot_in
boot_is S mode = refl

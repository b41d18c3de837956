-- Boot records what is in range, and leaves words.
use Rattle.std.proofs.Common.{ℕ, zero, suc, ◌≡◌, ◌≤◌, ◌/◌, inl, inr, Bool, true, false, cond, ◌&&◌, List, [], ◌∷◌, map, length, get_or, replicate, refl, subst, sym, arith}
use Rattle.std.specs.Prelude.{Option, Some, None, ◌||◌, ◌==◌, nat_le}
use Rattle.std.specs.List.{AllByRecursion}
use Rattle.std.proofs.lemmas.Bool.{and_parts, cases_lt, eqb-true, leb-true}
use Rattle.std.proofs.lemmas.List.{get_or-map, get_or_past, length-map}
use Rattle.osek_base.specs.declared.limits.TheConstants.{MAX_COUNTS}
use Rattle.osek_base.specs.declared.task.Counter.{Counter}
use Rattle.osek_base.specs.declared.trace_event.TraceEvent.{TraceEvent}
use Rattle.osek_base.specs.Activation.{activated}
use Rattle.osek_base.specs.Lists.{is_in}
use Rattle.osek_base.specs.Proper.{IsProper, is_proper_start, modes_exist}
use Rattle.osek_base.specs.Reschedule.{hooked, reschedule}
use Rattle.osek_base.specs.State.{Expiry, State, no_shared, still}
use Rattle.osek_base.specs.System.{Alarm, AlarmStart, System, alarm, counter, counter_of, no_alarm, start_in}
use Rattle.osek_base.specs.Trace.{all_activated, boot, first_expiry, starting_alarms, starting_tasks}
use Rattle.law_runs.proofs.Known.{proper_alarm_at}
use Rattle.law_runs.proofs.Lists.{all_append}
use Rattle.law_lines.proofs.Events.{IsInRange}
use Rattle.law_lines.specs.HeldWords.{AreWords, IsNear}
use Rattle.law_lines.proofs.Words.{HasWords, any_counter, no_words, of_activated}
use Rattle.law_lines.proofs.Executing.{IsRecorded, hooked_range}
use Rattle.law_lines.proofs.Phases.{reschedule_recorded}

module _ (S : System) where
  activated_words : (t : ℕ) (s : State) → HasWords S s → HasWords S (activated S t s)
  unfolding activated
  activated_words t s h =
      record { objects = of_activated S s.tick t s h.objects; active = h.active; words = h.words }

  all_words : (tasks : List ℕ) (s : State) → HasWords S s → HasWords S (all_activated S tasks s)
  all_words [] s h = h
  all_words (t ∷ ts) s h = all_words ts (activated S t s) (activated_words t s h)

  no_windows : (n : ℕ) → AllByRecursion AreWords (replicate n no_shared)
  no_windows zero = tt
  no_windows (suc n) = (no_words 16, no_windows n)

  cycle_few : (most cycle : ℕ) (least : Bool) → most ≤ MAX_COUNTS
      → (cycle == 0 || (least && nat_le cycle most)) ≡ true → cycle ≤ MAX_COUNTS
  cycle_few most cycle least few proper = go (cycle == 0) refl proper
    where
      go : (b : Bool) → (cycle == 0) ≡ b → (b || (least && nat_le cycle most)) ≡ true
          → cycle ≤ MAX_COUNTS
      go true is h = let none = eqb-true cycle 0 is in omega (arith, none)
      go false is h =
          let low = leb-true cycle most (and_parts least (nat_le cycle most) h).1 in
          omega (arith, low, few)

  start_near : (n mode : ℕ) (start : AlarmStart) → start.time ≤ MAX_COUNTS
      → start.cycle ≤ MAX_COUNTS
      → IsNear n (first_expiry (start_in mode (Some start)))
  start_near n mode start low few = go (is_in mode start.modes)
    where
      go : (b : Bool) → IsNear n (first_expiry (cond b (Some (start.time, start.cycle)) None))
      go true = (omega (arith, low), omega (arith, few))
      go false = tt

  first_near : (n mode : ℕ) (c : Counter) (o : Option AlarmStart)
      → c.max_allowed_value ≤ MAX_COUNTS → is_proper_start S c o ≡ true
      → IsNear n (first_expiry (start_in mode o))
  first_near n mode c None most proper = tt
  first_near n mode c (Some start) most proper =
      let all = and_parts _ (modes_exist S start.modes) proper in
      let timed = and_parts _ _ all.0 in
      let low = leb-true start.time c.max_allowed_value
      (and_parts (nat_le 1 start.time) _ timed.0).1 in
      start_near n mode start (omega (arith, low, most))
      (cycle_few c.max_allowed_value start.cycle _ most timed.1)

  begun_words : (proper : IsProper S) (mode : ℕ)
      → HasWords S (record (still S) { alarms = starting_alarms S mode })
  begun_words proper mode = record {
    objects = record {
      jobs = tt;
      shared = no_windows (length S.resources);
      masks = no_words (length S.tasks);
      alarms = near;
    };
    active = tt;
    words = λ who i. omega arith;
  }
    where
      first : Alarm → Option Expiry
      first a = first_expiry (start_in mode a.autostart)

      near : (a : ℕ)
          → IsNear (0 / (counter_of S a).ticks_per_base) (get_or (map first S.alarms) a None)
      near a = elim (cases_lt a (length S.alarms)) [
        | inl inside ↦
            subst (IsNear (0 / (counter_of S a).ticks_per_base))
            (sym (get_or-map first S.alarms a no_alarm None inside))
            (first_near _ mode (counter S (alarm S a).counter) (alarm S a).autostart
            (any_counter S (alarm S a).counter proper).most
            (and_parts _ _ (proper_alarm_at S a proper inside)).1)
        | inr past ↦
            let long = length-map S.alarms first in
            subst (IsNear (0 / (counter_of S a).ticks_per_base))
            (sym (get_or_past (map first S.alarms) a None (omega (arith, past, long)))) tt
      ]

  pub boot_recorded : (proper : IsProper S) (mode : ℕ) → IsRecorded S (boot S mode)
  unfolding boot
  boot_recorded proper mode =
      let begun = record (still S) { alarms = starting_alarms S mode } in
      let started = all_activated S (starting_tasks S mode) begun in
      let first = reschedule_recorded S started
      (all_words (starting_tasks S mode) begun (begun_words proper mode)) in
      record {
        events = all_append (IsInRange S) (hooked S.hooks.startup TraceEvent.Startup)
            (reschedule S started).events
            (hooked_range S S.hooks.startup TraceEvent.Startup tt) first.events;
        state = first.state;
      }

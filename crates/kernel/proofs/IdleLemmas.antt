-- Ticks in which nothing happens are ticks: a machine that leaves all but its tick as it was has done them.
use Rattle.std.proofs.Common.{◌≡◌, ℕ, zero, suc, ◌+◌, ◌-◌, ◌<◌, ◌≤◌, Bool, not, ◌&&◌, cond, List, [], ◌∷◌, ◌++◌, length, refl, sym, ◌∙◌, ap, ap₂, subst, arith}
use Rattle.std.specs.Prelude.{Option, is_some}
use Rattle.osek_base.specs.declared.limits.TheConstants.{MAX_TICKS}
use Rattle.osek_base.specs.declared.trace_event.TraceEvent.{TraceEvent}
use Rattle.osek_base.specs.Alarm.{alarms_advanced, due_alarms}
use Rattle.osek_base.specs.State.{Active}
use Rattle.osek_base.specs.System.{System}
use Rattle.osek_base.specs.Trace.{arriving}
use Rattle.law_kept.specs.Kept.{Kept}
use Rattle.law_kept.specs.KeptService.{ByNobody, bare, caller_by, caller_in}
use Rattle.law_kept.specs.KeptTick.{advanced_in, arrival_phase_in, before_execution_in, execute_phase_in, last_phase_in, silent_in, tick_in}
use Rattle.law_kept.specs.Moves.{KeptRecorded, contender_of, rescheduled}
use Rattle.law_kept.specs.Quiet.{IsQuiet, idle_step, later}
use Rattle.law_kept.proofs.Quiet.{alarm_phase_silent, before_silent, last_silent, nobody_executes, quiet_later, quiet_ticks}
use Rattle.law_blockers.specs.Restamping.{StampLists, alarm_phase_restamped, alarms_restamped, before_restamped, ended_of, instr_in, last_restamped, restamped_if, named_in, preempted_by, reschedule_restamped, spent_of}
use Rattle.services.specs.Objects.{Objects, kept_in}
use Rattle.kernel.specs.declared.acted.Acted.{Acted}
use Rattle.kernel.specs.Idle.{Passes, PassesOn, StaysIdle, rested}
use Rattle.kernel.specs.Stamping.{executed_restamped, noted, number_for}
use Rattle.kernel.specs.Machine.{IsCore, IsMachine, Machine, between, next_tick, picture as picture_in, system_of as system_in}
use Rattle.kernel.specs.Processor.{Processor, at_tick, picture, system_of}
use Rattle.seen_ticks.specs.Told.{refused_of_in}
use Rattle.kernel.specs.Told.{acted_in}
use Rattle.kernel.specs.Watches.{Watched, Watches, Begins, early, executing, last, watched_at}
use Rattle.kernel.proofs.DoesLemmas.{does_nothing}
use Rattle.kernel.proofs.QuietLemmas.{quiet_by_core}
use Rattle.kernel.proofs.TickLemmas.{IsTicked, Phases, may_start, ticked}
use Rattle.kernel.proofs.ToldLemmas.{both}

-- no alarm acted
abbrev pub none_acted : Acted
none_acted = record { due = []; refused = [] }

pub unacted : (S : System) (o : Kept) → due_alarms S (bare o) ≡ [] → none_acted ≡ acted_in S o
unacted S o none = sym (ap (λ due. both due (refused_of_in S due (advanced_in S o))) none)

-- ---- what is looked at in such a tick

module _ (S : System) (o : Kept) (quiet : IsQuiet S o) where
  nobody : caller_in o ≡ ByNobody
  nobody = ap₂ (λ (a : Option Active) r. caller_by (is_some a) r o.gone) quiet.no_routine quiet.nobody_runs

  unpreempted : (u : ℕ) (xs : StampLists) → reschedule_restamped S u o xs ≡ xs
  unpreempted u xs = ap (λ r. preempted_by u (contender_of r o.gone o.slots) (rescheduled S o).state.running xs) quiet.nobody_runs

  last_unstamped : (u : ℕ) (xs : StampLists) → last_restamped S u o xs ≡ xs
  last_unstamped u xs = ap (λ over. cond over xs (reschedule_restamped S u o xs)) quiet.on ∙ unpreempted u xs

  unended : (u : ℕ) (xs : StampLists) → executed_restamped S u o xs ≡ xs
  unended u xs =
      ap₂ (λ d r. restamped_if u (named_in (instr_in S d o)) o (execute_phase_in S o).state (ended_of r (ended (execute_phase_in S o).state) xs)) nobody quiet.nobody_runs
    where
      ended : Kept → Bool
      ended new = not o.gone && new.gone

  module _ (size : length o.alarms ≡ length S.alarms) (none : due_alarms S (bare o) ≡ []) where
    before_unstamped : (u : ℕ) (xs : StampLists) → before_restamped S u [] o xs ≡ xs
    before_unstamped u xs =
        ap (λ (r : KeptRecorded). reschedule_restamped S u (arrival_phase_in [] r.state) (alarm_phase_restamped S u o xs)) (alarm_phase_silent S o size none)
        ∙ unpreempted u (alarm_phase_restamped S u o xs)
        ∙ ap (λ due. alarms_restamped S u due (record o { alarms = alarms_advanced S (bare o) }) xs) none

-- ---- a tick

-- the machine behind it
abbrev pub idled : Watched → Watched
idled w = record { processor = w.processor; blocking = rested w.blocking }

module _ (counted : Bool) (n : ℕ) (w : Watched) (opening : List TraceEvent) (acted : Acted)
    (h : IsMachine counted w.processor.objects.tick (between w n opening acted)) (low : n < MAX_TICKS)
    (quiet : IsQuiet (system_of w.processor) (picture (at_tick w.processor n)))
    (none : due_alarms (system_of w.processor) (bare (picture (at_tick w.processor n))) ≡ []) where
  abbrev S : System
  S = system_of w.processor

  abbrev o : Kept
  o = picture (at_tick w.processor n)

  size : length o.alarms ≡ length S.alarms
  size = (may_start counted w n opening acted h low opening refl).before.alarms

  one : Watches counted (early []) n (watched_at w n) (watched_at w n) opening opening
  one = record {
    does = does_nothing (λ S. before_execution_in S []) (at_tick w.processor n) opening (before_silent S o quiet size none);
    stamps = λ counting. sym (before_unstamped S o quiet size none n w.blocking.stamps);
    told = refl;
  }

  two : Begins counted n (watched_at w n) (watched_at (idled w) n)
  two = record {
    processor = refl;
    blocking = record {
      spent = λ counting. record {
        stamps = sym (ap (λ d. spent_of d w.blocking.stamps) (nobody S o quiet));
        last = sym (ap (λ d. noted S n d w.blocking.told.last) (nobody S o quiet));
        number = sym (ap (λ d. number_for S d w.blocking.told.last w.blocking.stamps) (nobody S o quiet));
      };
      sized = refl;
      level = λ same. same;
    };
  }

  three : Watches counted executing (n + 1) (watched_at (idled w) n) (watched_at (idled w) n) [] (TraceEvent.Idle ∷ [])
  three = record {
    does = record {
      system = refl;
      kept = sym (ap (λ (r : KeptRecorded). r.state) (nobody_executes S o quiet));
      events = sym (ap (λ (r : KeptRecorded). r.events) (nobody_executes S o quiet));
    };
    stamps = λ counting. sym (unended S o quiet (n + 1) w.blocking.stamps);
    told = refl;
  }

  four : Watches counted last (n + 1) (watched_at (idled w) n) (watched_at (idled w) n) [] []
  four = record {
    does = does_nothing last_phase_in (at_tick w.processor n) [] (last_silent S o quiet);
    stamps = λ counting. sym (last_unstamped S o quiet (n + 1) w.blocking.stamps);
    told = refl;
  }

  phases : Phases counted [] n (watched_at w n) (watched_at w n) (watched_at (idled w) n) (watched_at (idled w) n) (watched_at (idled w) n) opening opening [] [] TraceEvent.Idle
  phases = record { one = one; two = two; three = three; four = four }

  idle_ticked : IsTicked counted [] (between w n opening acted) (between (idled w) (n + 1) [] none_acted) n (opening ++ TraceEvent.Idle ∷ [])
  idle_ticked =
      ticked counted [] n w (watched_at w n) (watched_at (idled w) n) (watched_at (idled w) n) (watched_at (idled w) n) opening [] opening opening [] [] acted none_acted
      TraceEvent.Idle h low quiet.on tt refl refl (unacted S o none) phases

-- ---- some ticks

-- runs go on to a machine, and it is one
pub record IsReached (counted : Bool) (n : ℕ) (clock : ℕ) (old new : Machine) : Type 0 where
  pub goes_on : PassesOn counted n old new
  pub keeps : IsMachine counted clock new

module _ (counted : Bool) (n : ℕ) (w : Watched) (opening : List TraceEvent) (acted : Acted)
    (h : IsMachine counted w.processor.objects.tick (between w n opening acted))
    (quiet : IsQuiet (system_of w.processor) (picture (at_tick w.processor n))) where
  abbrev none_due : ℕ → Type 0
  none_due k = (i : ℕ) → i < k → due_alarms (system_of w.processor) (bare (later i (picture (at_tick w.processor n)))) ≡ []

  abbrev after : ℕ → Machine
  after m = between (idled w) m [] none_acted

  first_reached : n < MAX_TICKS → none_due 1 → IsReached counted 1 n (between w n opening acted) (after (n + 1))
  first_reached low none =
      let zero_more : n + 0 ≡ n = omega arith in
      let done = idle_ticked counted n w opening acted h low quiet
      (ap (λ t. due_alarms (system_of w.processor) (bare (picture (at_tick w.processor t)))) (sym zero_more) ∙ none 0 (omega arith)) in
      record {
        goes_on = λ mode arrivals free come. done.goes_on mode arrivals (ap (arriving arrivals) (sym zero_more) ∙ free 0 (omega arith)) come;
        keeps = done.keeps;
      }

  one_more_reached : (k : ℕ) → n + suc k < MAX_TICKS → due_alarms (system_of w.processor) (bare (picture (at_tick w.processor (n + suc k)))) ≡ []
      → IsReached counted (suc k) (n + k) (between w n opening acted) (after (n + suc k))
      → IsReached counted (suc (suc k)) (n + suc k) (between w n opening acted) (after (n + suc k + 1))
  one_more_reached k low none ih =
      let v : Watched = watched_at (idled w) (n + k) in
      let done = idle_ticked counted (n + suc k) v [] none_acted ih.keeps low (quiet_later (system_of w.processor) (picture (at_tick w.processor n)) (suc k) quiet) none in
      record {
        goes_on = λ mode arrivals free come.
            done.goes_on mode arrivals (free (suc k) (omega arith))
            (ih.goes_on mode arrivals (λ i less. free i (omega (arith, less))) come);
        keeps = done.keeps;
      }

  pub reached : (k : ℕ) → n + suc k ≤ MAX_TICKS → none_due (suc k)
      → IsReached counted (suc k) (n + k) (between w n opening acted) (after (n + suc k))
  reached zero low none =
      let zero_more : n ≡ n + 0 = omega arith in
      subst (λ c. IsReached counted 1 c (between w n opening acted) (after (n + 1))) zero_more (first_reached (omega (arith, low)) none)
  reached (suc k) low none =
      let more : n + suc k + 1 ≡ n + suc (suc k) = omega arith in
      subst (λ m. IsReached counted (suc (suc k)) (n + suc k) (between w n opening acted) (after m)) more
      (one_more_reached k (omega (arith, low)) (none (suc k) (omega arith)) (reached k (omega (arith, low)) (λ i less. none i (omega (arith, less)))))

-- of each of the ticks
pub all_idle : (S : System) (o : Kept) (k : ℕ) → IsQuiet S o → length o.alarms ≡ length S.alarms
    → ((i : ℕ) → i < k → due_alarms S (bare (later i o)) ≡ []) → (i : ℕ) → i < k → tick_in S [] (later i o) ≡ idle_step (later i o)
all_idle S o k quiet size none i less = quiet_ticks S (later i o) (quiet_later S o i quiet) size (none i less)

pub all_silent : (S : System) (o : Kept) (k : ℕ) → IsQuiet S o → length o.alarms ≡ length S.alarms
    → ((i : ℕ) → i < k → due_alarms S (bare (later i o)) ≡ []) → (i : ℕ) → i < k
    → before_execution_in S [] (later i o) ≡ silent_in (later i o)
all_silent S o k quiet size none i less = before_silent S (later i o) (quiet_later S o i quiet) size (none i less)

-- ---- what the machine does

pub record IsPassed (counted : Bool) (clock most idle : ℕ) (old new : Machine) : Type 0 where
  pub keeps : IsMachine counted clock new
  pub idled : StaysIdle counted most idle old new

module _ (counted : Bool) (n : ℕ) (w : Watched) (opening : List TraceEvent) (acted : Acted)
    (h : IsMachine counted w.processor.objects.tick (between w n opening acted)) (begun : 1 ≤ n)
    (quiet : IsQuiet (system_of w.processor) (picture (at_tick w.processor n)))
    (v : Watched) (now : Acted) (now_is : now ≡ none_acted) (most : ℕ) (room : n + most ≤ MAX_TICKS) where
  same_machine : (idle : ℕ) → 0 < idle → Passes most idle w v
      → between v (n + idle) opening now ≡ between (idled w) (n + idle) [] none_acted
  same_machine idle some passes =
      λ i. between (record { processor = passes.passed.after i; blocking = passes.rested some i }) (n + idle) (h.none_later begun i) (now_is i)

  none_is_due : (idle : ℕ) → Passes most idle w v
      → (i : ℕ) → i < idle → due_alarms (system_of w.processor) (bare (later i (picture (at_tick w.processor n)))) ≡ []
  none_is_due idle passes i low =
      let clock : w.processor.objects.tick ≡ n - 1 = h.before in
      let tick_is : n + i ≡ w.processor.objects.tick + (i + 1) = omega (arith, clock, begun) in
      ap (λ t. due_alarms (system_of w.processor) (bare (picture (at_tick w.processor t)))) tick_is ∙ passes.passed.none i low

  passed_idle : (idle : ℕ) → 0 < idle → Passes most idle w v
      → IsPassed counted v.processor.objects.tick most idle
      (between w n opening acted) (between v (n + idle) opening now)
  passed_idle zero some passes = absurd (omega (arith, some))
  passed_idle (suc k) some passes =
      let few = passes.few in
      let low : n + suc k ≤ MAX_TICKS = omega (arith, few, room) in
      let none = none_is_due (suc k) passes in
      let there = reached counted n w opening acted h quiet k low none in
      let clock : w.processor.objects.tick ≡ n - 1 = h.before in
      let advanced : v.processor.objects.tick ≡ w.processor.objects.tick + suc k = ap (λ (x : Processor). x.objects.tick) passes.passed.after in
      let clock_is : n + k ≡ v.processor.objects.tick = omega (arith, clock, advanced, begun) in
      let size = (may_start counted w n opening acted h (omega (arith, low)) opening refl).before.alarms in
      let same = same_machine (suc k) some passes in
      record {
        keeps =
            subst (IsMachine counted v.processor.objects.tick) (sym same)
            (subst (λ c. IsMachine counted c (between (idled w) (n + suc k) [] none_acted)) clock_is there.keeps);
        idled = subst (StaysIdle counted most (suc k) (between w n opening acted)) (sym same)
            (record {
              few = few;
              system = refl;
              after = refl;
              none_due = none;
              before = all_silent (system_of w.processor) (picture (at_tick w.processor n)) (suc k) quiet size none;
              nobody = λ some. nobody (system_of w.processor) (picture (at_tick w.processor n)) quiet;
              idle = all_idle (system_of w.processor) (picture (at_tick w.processor n)) (suc k) quiet size none;
              on = λ some. quiet.on;
              not_first = λ some. begun;
              begun = λ some. h.none_later begun;
              next = refl;
              goes_on = there.goes_on;
              of_run = there.keeps.of_run;
            });
      }

-- the same of a machine that is seen, by its core of the services
pub machine_idles : (counted : Bool) (n : ℕ) (w : Watched) (opening : List TraceEvent) (acted : Acted)
    (v : Watched) (now : Acted) (most idle : ℕ) (m : Machine) (o : Objects) → between w n opening acted ≡ m
    → IsMachine counted w.processor.objects.tick (between w n opening acted) → 1 ≤ n
    → IsCore m o → IsQuiet o.system (kept_in o) → now ≡ none_acted
    → next_tick m + most ≤ MAX_TICKS → 0 < idle → Passes most idle w v
    → IsPassed counted v.processor.objects.tick most idle m (between v (n + idle) opening now)
machine_idles counted n w opening acted v now most idle m o is h begun core quiet now_is room some passes =
    subst (λ x. IsPassed counted v.processor.objects.tick most idle x (between v (n + idle) opening now)) is
    (passed_idle counted n w opening acted h begun
    (subst (λ x. IsQuiet (system_in x) (picture_in x)) (sym is) (quiet_by_core m o core quiet)) v now now_is
    most (subst (λ x. next_tick x + most ≤ MAX_TICKS) (sym is) room) idle some passes)

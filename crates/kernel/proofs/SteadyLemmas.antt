-- Ticks in which nothing comes before the instruction of the running task: they begin as any tick does.
use Rattle.std.proofs.Common.{◌≡◌, ℕ, suc, ◌+◌, ◌-◌, ◌<◌, ◌≤◌, Bool, true, false, cond, nat_le, List, [], ◌∷◌, ◌++◌, length, refl, sym, ◌∙◌, ap, subst, arith}
use Rattle.std.specs.Prelude.{Option, Some, None, ◌==◌, IfSome, is_some}
use Rattle.osek_base.specs.declared.executed.Executed.{Executed}
use Rattle.osek_base.specs.declared.ids.Owner.{Owner}
use Rattle.osek_base.specs.declared.limits.TheConstants.{MAX_ALARMS, MAX_TICKS}
use Rattle.osek_base.specs.declared.trace_event.TraceEvent.{TraceEvent}
use Rattle.osek_base.specs.Executed.{StandsIn, idle_or_executed}
use Rattle.osek_base.specs.Alarm.{due_alarms}
use Rattle.osek_base.specs.Ceiling.{top_priority}
use Rattle.osek_base.specs.System.{System}
use Rattle.osek_base.specs.Tick.{routine_choice}
use Rattle.law_runs.proofs.Formed.{IsPlaced}
use Rattle.ready_queues.specs.QueueMoves.{highest}
use Rattle.law_kept.specs.Kept.{Kept, Slot}
use Rattle.law_kept.specs.KeptService.{ByTask, bare, caller_by, caller_in}
use Rattle.law_kept.specs.KeptTick.{and_then_in, arrival_phase_in, before_execution_in, routine_started_in, silent_in, start_phase_in, advanced_in}
use Rattle.law_kept.specs.Moves.{KeptRecorded, chosen, contender, contender_of, dynamic_in, may_dispatch_in, rescheduled}
use Rattle.law_kept.proofs.Quiet.{alarm_phase_silent}
use Rattle.law_blockers.specs.Restamping.{StampLists, alarm_phase_restamped, alarms_restamped, before_restamped, preempted_by, reschedule_restamped}
use Rattle.services.specs.Calls.{calling_task, context_in}
use Rattle.services.specs.Objects.{Objects, kept_in}
use Rattle.services.specs.Quiet.{HasPassed as PassesByObjects}
use Rattle.services.specs.Steady.{IsSteady}
use Rattle.kernel.specs.declared.acted.Acted.{Acted}
use Rattle.kernel.specs.Machine.{IsMachine, Machine, MayTick, Ticks, between, next_tick, picture as picture_in}
use Rattle.kernel.specs.Processor.{MayFetch, Processor, at_tick, picture, system_of}
use Rattle.kernel.specs.Idle.{HasPassed}
use Rattle.kernel.specs.Steady.{BeginsSteady, ExecutesNext}
use Rattle.kernel.specs.Stamping.{number_for, number_told}
use Rattle.kernel.specs.Told.{acted_in}
use Rattle.kernel.specs.Working.{HasTickedSteady}
use Rattle.kernel.specs.Watches.{Begins, Blocking, Finishes, MayBegin, MayStart, Starts, Watched, Watches, early, watched_at}
use Rattle.kernel.proofs.DoesLemmas.{does_nothing, nothing_by_objects, processor_of}
use Rattle.kernel.proofs.IdleLemmas.{none_acted, unacted}
use Rattle.kernel.proofs.TickLemmas.{may_start, ticked}
use Rattle.kernel.proofs.WatchLemmas.{watched_of}

-- ---- a reschedule neither reads nor changes the clock

abbrev at : ℕ → Kept → Kept
at n o = record o { tick = n }

abbrev recorded_at : ℕ → KeptRecorded → KeptRecorded
recorded_at n r = record r { state = at n r.state }

module _ (S : System) (n : ℕ) where
  either_at : (b : Bool) (x y : KeptRecorded) → cond b (recorded_at n x) (recorded_at n y) ≡ recorded_at n (cond b x y)
  either_at true x y = refl
  either_at false x y = refl

  chosen_at : (running level : Option ℕ) (o : Kept) → chosen S running level (at n o) ≡ recorded_at n (chosen S running level o)
  chosen_at None None o = refl
  chosen_at None (Some l) o = refl
  chosen_at (Some t) None o = refl
  chosen_at (Some t) (Some l) o = either_at (nat_le l (dynamic_in S t (o.slots t))) _ _

  rescheduled_at : (o : Kept) → rescheduled S (at n o) ≡ recorded_at n (rescheduled S o)
  unfolding rescheduled
  rescheduled_at o =
      ap (λ r. cond (may_dispatch_in o) r (record { events = []; state = at n o }))
      (chosen_at (contender o) (highest (suc (top_priority S)) o.queues) o)
      ∙ either_at (may_dispatch_in o) _ _

  -- it is so at another tick too
  pub steady_at : (o : Kept) (t : ℕ) → IsSteady S o t → IsSteady S (at n o) t
  steady_at o t steady = record {
    on = steady.on;
    runs = steady.runs;
    stands = steady.stands;
    no_routine = steady.no_routine;
    none_pending = steady.none_pending;
    known = steady.known;
    dispatched = rescheduled_at o ∙ ap (recorded_at n) steady.dispatched;
  }

-- the task calls
pub calls : (S : System) (o : Kept) (t : ℕ) → IsSteady S o t → caller_in o ≡ ByTask t
calls S o t steady = λ i. caller_by (is_some (steady.no_routine i)) (steady.runs i) (steady.stands i)

-- the words of windows aside
pub steady_of_objects : (m : Processor) (o : Objects) (words : List ℕ) (t : ℕ) → processor_of o words ≡ m
    → IsSteady o.system (kept_in o) t → IsSteady (system_of m) (picture m) t
steady_of_objects m o words t is steady =
    subst (λ (x : Processor). IsSteady (system_of x) (picture x) t) is
    (record {
      on = steady.on;
      runs = steady.runs;
      stands = steady.stands;
      no_routine = steady.no_routine;
      none_pending = steady.none_pending;
      known = steady.known;
      dispatched = nothing_by_objects (processor_of o words) o words refl steady.dispatched;
    })

-- with its place
pub executes_by_objects : (w : Watched) (o : Objects) (words : List ℕ) (t : ℕ) → processor_of o words ≡ w.processor
    → IsSteady o.system (kept_in o) t → t < length o.system.tasks
    → IsPlaced o.system (Owner.Task t) (context_in (kept_in o) (Owner.Task t)) → ExecutesNext w t
executes_by_objects w o words t is steady known placed =
    let so : IsSteady (system_of w.processor) (picture w.processor) t = steady_of_objects w.processor o words t is steady in
    record {
      steady = so;
      known = subst (λ (x : Processor). t < length (system_of x).tasks) is known;
      fetch = record {
        executes = (calls (system_of w.processor) (picture w.processor) t so, refl);
        placed =
            subst (λ (x : Processor). IsPlaced (system_of x) (Owner.Task t) (context_in (picture x) (Owner.Task t))) is placed;
      };
    }

-- the next tick begins
executes_at : (w : Watched) (n t : ℕ) → ExecutesNext w t → ExecutesNext (watched_at w n) t
executes_at w n t e = record {
  steady = steady_at (system_of w.processor) n (picture w.processor) t e.steady;
  known = e.known;
  fetch = record { executes = e.fetch.executes; placed = e.fetch.placed };
}

pub begins_by_objects : (w : Watched) (o n : Objects) (words : List ℕ) (b : Blocking) (t : ℕ) → watched_of (processor_of o words) b ≡ w
    → ExecutesNext w t → PassesByObjects 1 o n → BeginsSteady w (watched_of (processor_of n words) b) t
begins_by_objects w o n words b t is e passed =
    let new : Watched = watched_of (processor_of n words) b in
    let here = ap (λ (x : Watched). x.processor) is in
    let passes : HasPassed 1 w.processor new.processor =
    subst (λ x. HasPassed 1 x new.processor) here
    (record { none = λ k low. passed.none k low; after = ap (λ x. processor_of x words) passed.after }) in
    record {
      passes = record { steady = e.steady; passed = passes };
      same = ap (λ (x : Watched). x.blocking) is;
      next =
          subst (λ x. ExecutesNext x t)
          (λ i. record { processor = sym passes.after i; blocking = ap (λ (x : Watched). x.blocking) (sym is) i })
          (executes_at w (w.processor.objects.tick + 1) t e);
    }

-- it may begin, and what it executes may be fetched
pub may_begin : (w : Watched) (t n : ℕ) → ExecutesNext w t → n < MAX_TICKS → MayBegin w.processor (Some t) n
may_begin w t n e low = record {
  executes = record { value = sym (ap calling_task (calls (system_of w.processor) (picture w.processor) t e.steady)); known = e.known };
  early = low;
}

pub may_fetch : (counted : Bool) (n : ℕ) (st bg : Watched) (t : ℕ) → ExecutesNext st t → Begins counted n st bg
    → MayFetch bg.processor (Owner.Task t)
may_fetch counted n st bg t e two = subst (λ x. MayFetch x (Owner.Task t)) (sym two.processor) e.fetch

-- ---- what comes before the instruction

-- the contender that runs on isn't preempted
runs_on : (u : ℕ) (running : Option ℕ) (gone : Bool) (slots : ℕ → Slot) (xs : StampLists)
    → preempted_by u (contender_of running gone slots) running xs ≡ xs
runs_on u None gone slots xs = refl
runs_on u (Some t) true slots xs = refl
runs_on u (Some t) false slots xs = go (is_some (slots t).waits_for)
  where
    go : (b : Bool) → preempted_by u (cond b None (Some t)) (Some t) xs ≡ xs
    go true = refl
    go false = let same : (t == t) ≡ true = grind arith in rw same refl

unpreempted : (S : System) (u : ℕ) (o : Kept) (xs : StampLists) → rescheduled S o ≡ silent_in o
    → reschedule_restamped S u o xs ≡ xs
unpreempted S u o xs dispatched =
    ap (λ (r : KeptRecorded). preempted_by u (contender o) r.state.running xs) dispatched
    ∙ runs_on u o.running o.gone o.slots xs

module _ (S : System) (o : Kept) (t : ℕ) (steady : IsSteady S o t) where
  none_starts : start_phase_in S o ≡ o
  unfolding start_phase_in
  none_starts = go (may_dispatch_in o)
    where
      go : (b : Bool) → cond b (routine_started_in (routine_choice S (bare o)) o) o ≡ o
      go true = ap (λ c. routine_started_in c o) steady.none_pending
      go false = refl

  module _ (size : length o.alarms ≡ length S.alarms) (none : due_alarms S (bare o) ≡ []) where
    pub before_silent : before_execution_in S [] o ≡ silent_in o
    before_silent =
        ap (λ (r : KeptRecorded). begun (and_then_in r (λ a. rescheduled S (arrival_phase_in [] a)))) (alarm_phase_silent S o size none)
        ∙ ap (λ (r : KeptRecorded). begun (record { events = [] ++ r.events; state = r.state })) steady.dispatched
        ∙ ap silent_in none_starts
      where
        begun : KeptRecorded → KeptRecorded
        begun r = record { events = r.events; state = start_phase_in S r.state }

    before_unstamped : (u : ℕ) (xs : StampLists) → before_restamped S u [] o xs ≡ xs
    before_unstamped u xs =
        ap (λ (r : KeptRecorded). reschedule_restamped S u (arrival_phase_in [] r.state) (alarm_phase_restamped S u o xs))
        (alarm_phase_silent S o size none)
        ∙ unpreempted S u o (alarm_phase_restamped S u o xs) steady.dispatched
        ∙ ap (λ due. alarms_restamped S u due (advanced_in S o) xs) none

-- ---- a tick

module _ (counted : Bool) (n : ℕ) (w : Watched) (opening : List TraceEvent) (may : MayStart counted n w opening) (begun : 1 ≤ n)
    (st : Watched) (t : ℕ) (begins : BeginsSteady w st t) where
  abbrev S : System
  S = system_of w.processor

  abbrev o : Kept
  o = picture (at_tick w.processor n)

  pub size : length o.alarms ≡ length S.alarms
  size = may.before.alarms

  clock_is : n ≡ w.processor.objects.tick + 1
  clock_is = let clock : w.processor.objects.tick ≡ n - 1 = may.before.clock in omega (arith, clock, begun)

  steady : IsSteady S o t
  steady = steady_at S n (picture w.processor) t begins.passes.steady

  pub none_due : due_alarms S (bare o) ≡ []
  none_due =
      ap (λ k. due_alarms S (bare (picture (at_tick w.processor k)))) clock_is ∙ begins.passes.passed.none 0 (omega arith)

  pub silent_before : before_execution_in S [] o ≡ silent_in o
  silent_before = before_silent S o t steady size none_due

  pub called : caller_in o ≡ ByTask t
  called = calls S o t steady

  pub after : st ≡ watched_at w n
  after = λ i. record {
    processor = (begins.passes.passed.after ∙ ap (at_tick w.processor) (sym clock_is)) i;
    blocking = begins.same i;
  }

  -- phases 1 to 4 leave all as it was
  pub begins_tick : Watches counted (early []) n (watched_at w n) st [] []
  begins_tick = subst (λ x. Watches counted (early []) n (watched_at w n) x [] []) (sym after)
      (record {
        does = does_nothing (λ S. before_execution_in S []) (at_tick w.processor n) [] silent_before;
        stamps = λ counting. sym (before_unstamped S o t steady size none_due n w.blocking.stamps);
        told = refl;
      })

  no_alarm_acts : none_acted ≡ acted_in S o
  no_alarm_acts = unacted S o none_due

  pub starts_steady : Starts counted (MAX_ALARMS + 2) (early []) n w st [] [] none_acted
  starts_steady = record { does = begins_tick; acted = no_alarm_acts; few = omega arith }

  -- the number that is told behind it is that of the task that executes
  pub number_told_so : (bg la : Watched) (e : Executed) (behind : List TraceEvent) → Begins counted n st bg
      → Finishes counted (n + 1) bg la (Some e) behind → counted ≡ true
      → number_told la.blocking.told ≡ number_for S (caller_in o) w.blocking.told.last w.blocking.stamps
  number_told_so bg la e behind two r counting =
      ap number_told (r.reschedules.told ∙ r.executes.does.told)
      ∙ subst (λ (x : Watched). number_told bg.blocking.told
      ≡ number_for (system_of x.processor) (caller_in (picture x.processor)) x.blocking.told.last x.blocking.stamps) after
      (two.blocking.spent counting).number

-- the tick is done, and the machine keeps its run
pub record IsSteadyTick (counted : Bool) (clock : ℕ) (old new : Machine) (executed : Executed) (behind : List TraceEvent) : Type 0 where
  pub keeps : IsMachine counted clock new
  pub ticked : HasTickedSteady counted old new executed behind

pub steady_ticked : (counted : Bool) (n : ℕ) (w st bg la : Watched) (opening behind : List TraceEvent) (acted now : Acted) (t : ℕ)
    (e : Executed) (m : Machine) → between w n opening acted ≡ m
    → IsMachine counted w.processor.objects.tick (between w n opening acted) → 1 ≤ n → MayTick [] m
    → BeginsSteady w st t → now ≡ none_acted → Begins counted n st bg → Finishes counted (n + 1) bg la (Some e) behind
    → IsSteadyTick counted la.processor.objects.tick m (between la (n + 1) opening now) e behind
steady_ticked counted n w st bg la opening behind acted now t e m is h begun may begins now_is two r =
    let S : System = system_of w.processor in
    let low : n < MAX_TICKS = subst (λ (x : Machine). next_tick x < MAX_TICKS) (sym is) may.limit in
    let on : (picture (at_tick w.processor n)).over ≡ false = subst (λ (x : Machine). (picture_in x).over ≡ false) (sym is) may.on in
    let starts = may_start counted w n opening acted h low opening refl in
    let one = begins_tick counted n w opening starts begun st t begins in
    let none : opening ≡ [] = h.none_later begun in
    let acted_is : now ≡ acted_in S (picture (at_tick w.processor n)) =
    now_is ∙ no_alarm_acts counted n w opening starts begun st t begins in
    let all = ticked counted [] n w st bg r.between la opening opening [] [] r.first behind acted now
    (idle_or_executed (system_of bg.processor) (Some e)) h low on tt (sym none) none acted_is
    (record { one = one; two = two; three = r.executes.does; four = r.reschedules }) in
    let system : system_of bg.processor ≡ S = ap system_of two.processor ∙ one.does.system in
    let new : Machine = between la (n + 1) opening now in
    subst (λ (x : Machine). IsSteadyTick counted la.processor.objects.tick x new e behind) is
    (record {
      keeps = all.keeps;
      ticked = record {
        ticked = record {
          ticks = subst (λ T. Ticks [] (between w n opening acted) new (idle_or_executed T (Some e) ∷ behind)) system all.ticks;
          goes_on = all.goes_on;
          was_of_run = h.of_run;
          of_run = all.keeps.of_run;
          there = subst (λ T. IfSome (Some e) (StandsIn T)) system r.executes.there;
          few = let few = r.few in omega (arith, few);
          acted = acted_is;
        };
        begun = begun;
        unwritten = none;
        size = size counted n w opening starts begun st t begins;
        none_due = none_due counted n w opening starts begun st t begins;
        before = silent_before counted n w opening starts begun st t begins;
        task = t;
        calls = called counted n w opening starts begun st t begins;
        number = number_told_so counted n w opening starts begun st t begins bg la e behind two r;
      };
    })

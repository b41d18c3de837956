-- A machine's tick: what holds before each phase, and the runs that had come to it have come to the next.
use Rattle.std.proofs.Common.{◌≡◌, ℕ, ◌+◌, ◌-◌, ◌<◌, ◌≤◌, Bool, true, false, List, [], ◌∷◌, ◌++◌, length, refl, sym, ◌∙◌, ap, ap₂, subst, append_assoc, arith}
use Rattle.osek_base.specs.declared.arrivals.Arrival.{Arrival}
use Rattle.osek_base.specs.declared.limits.TheConstants.{MAX_TICKS}
use Rattle.osek_base.specs.declared.trace_event.TraceEvent.{TraceEvent}
use Rattle.osek_base.specs.Proper.{IsProper}
use Rattle.osek_base.specs.System.{System}
use Rattle.osek_base.specs.Tick.{before_execution, tick}
use Rattle.osek_base.specs.Trace.{Run, arriving, run}
use Rattle.osek_base.proofs.FrameLemmas.{tick_tick}
use Rattle.law_runs.proofs.FormedTick.{run_form}
use Rattle.law_blockers.specs.Steps.{record_at, step_at}
use Rattle.law_blockers.specs.Stamps.{stamps_of}
use Rattle.law_blockers.proofs.StepLemmas.{run_more, run_tick, unwritten_more}
use Rattle.law_kept.specs.Kept.{Kept, kept}
use Rattle.law_kept.specs.KeptTick.{KeptStep, before_execution_in, execute_phase_in, last_phase_in, tick_in}
use Rattle.law_kept.specs.Moves.{KeptRecorded}
use Rattle.law_kept.specs.KeptService.{caller_in}
use Rattle.law_kept.specs.Standing.{MayServe, runner_waits}
use Rattle.law_kept.proofs.InRuns.{before_alike, ready_between_ticks, serves_in_runs}
use Rattle.law_kept.proofs.Nesting.{few_nested}
use Rattle.law_kept.proofs.Ticked.{ticks}
use Rattle.law_blockers.specs.Restamping.{before_restamped, last_restamped}
use Rattle.law_runs.specs.Arrived.{AreArrivals, with_arrived}
use Rattle.law_runs.proofs.Arriving.{earlier, present, takes_any_arrivals}
use Rattle.std.specs.List.{AllByRecursion}
use Rattle.kernel.specs.Stamping.{AreCounted, Told, executed_restamped, noted, number_for, number_told as number_of}
use Rattle.kernel.specs.declared.acted.Acted.{Acted}
use Rattle.kernel.specs.Told.{acted_at, acted_in}
use Rattle.kernel.proofs.ToldLemmas.{acted_told}
use Rattle.kernel.specs.Machine.{GoesOn, HasCome, IsAt, IsMachine, Machine, Ticks, between, next_tick}
use Rattle.kernel.proofs.PastLemmas.{at_past}
use Rattle.kernel.specs.Processor.{AreAhead, IsBefore, MayExecute, at_tick, picture, system_of}
use Rattle.kernel.specs.Watches.{Begins, HasBegun, MayAct, MayStart, Watched, Watches, early, executing, last, watched_at}
use Rattle.kernel.proofs.KeepingLemmas.{after_told, begun_listed, counted_of, counted_spent, levels_told, number_told, step_is}
use Rattle.kernel.proofs.StartLemmas.{alarms_begun, starting_ahead}

tick_after : (S : System) (arrived : List ℕ) (o : Kept)
    → (tick_in S arrived o).after
    ≡ (let last = (last_phase_in S (execute_phase_in S (before_execution_in S arrived o).state).state).state in record last { tick = last.tick + 1 })
unfolding tick_in
tick_after S arrived o = refl

tick_events : (S : System) (arrived : List ℕ) (o : Kept)
    → (tick_in S arrived o).events
    ≡ (before_execution_in S arrived o).events
    ++ ((execute_phase_in S (before_execution_in S arrived o).state).events
    ++ (last_phase_in S (execute_phase_in S (before_execution_in S arrived o).state).state).events)
unfolding tick_in
tick_events S arrived o = refl

-- ---- of any run that has come to a picture

module _ (S : System) (proper : IsProper S) (mode : ℕ) (arrivals : List Arrival) (n : ℕ) (k : Kept) (same : k ≡ kept S (run S mode arrivals n).state)
    (arrived : List ℕ) where
  there : (b : Kept) → b ≡ (before_execution_in S arrived k).state → b ≡ kept S (before_execution S arrived (run S mode arrivals n).state).state
  there b before =
      before ∙ ap (λ k. (before_execution_in S arrived k).state) same
      ∙ sym (ap (λ (r : KeptRecorded). r.state) (before_alike S mode arrivals n arrived proper))

  -- the tick of the run
  after_run : (tick_in S arrived k).after ≡ kept S (tick S arrived (run S mode arrivals n).state).after
  after_run =
      ap (λ k. (tick_in S arrived k).after) same
      ∙ sym (ap (λ (t : KeptStep). t.after) (ticks S mode arrivals n arrived proper))

  number_after : (run S mode arrivals n).state.over ≡ false → (tick_in S arrived k).after.tick ≡ n + 1
  number_after going =
      ap (λ (k : Kept). k.tick) after_run ∙ tick_tick S arrived (run S mode arrivals n).state
      ∙ ap (λ t. t + 1) (run_tick S mode arrivals n going)

-- one tick further, where these interrupts arrive
pub further : (S : System) (proper : IsProper S) (mode : ℕ) (arrivals : List Arrival) (n : ℕ) (k : Kept) → k ≡ kept S (run S mode arrivals n).state
    → (run S mode arrivals n).state.over ≡ false
    → (tick_in S (arriving arrivals n) k).after ≡ kept S (run S mode arrivals (n + 1)).state
further S proper mode arrivals n k same going =
    after_run S proper mode arrivals n k same (arriving arrivals n)
    ∙ ap (λ t. kept S (tick S (arriving arrivals t) (run S mode arrivals n).state).after) (sym (run_tick S mode arrivals n going))
    ∙ sym (ap (λ (r : Run). kept S r.state) (run_more S mode arrivals n going))

-- the records of the tick, where these interrupts arrive
pub record_told : (counted : Bool) (S : System) (mode : ℕ) (arrivals : List Arrival) (m : Machine) (arrived : List ℕ) → IsProper S
    → HasCome counted S mode arrivals (next_tick m) m → (run S mode arrivals (next_tick m)).state.over ≡ false → arriving arrivals (next_tick m) ≡ arrived
    → m.unwritten ++ (tick_in (system_of m.processor) arrived (picture m.processor)).events ≡ record_at S mode arrivals (next_tick m)
record_told counted S mode arrivals m arrived proper come going arrive =
    let n : ℕ = next_tick m in
    let r : Run = run S mode arrivals n in
    ap₂ (λ (u : List TraceEvent) (T : System). u ++ (tick_in T arrived (picture m.processor)).events) come.at.unwritten come.at.system
    ∙ ap₂ (λ (v : List ℕ) (o : Kept). r.unwritten ++ (tick_in S v o).events) (sym arrive) come.at.same
    ∙ ap (λ (v : List TraceEvent). r.unwritten ++ v)
    (sym (ap (λ (t : KeptStep). t.events) (ticks S mode arrivals n (arriving arrivals n) proper))
    ∙ ap (λ t. (tick S (arriving arrivals t) r.state).events) (sym (run_tick S mode arrivals n going)))

-- and the state in which its instruction is executed
pub executing_told : (counted : Bool) (S : System) (mode : ℕ) (arrivals : List Arrival) (m : Machine) (arrived : List ℕ) → IsProper S
    → HasCome counted S mode arrivals (next_tick m) m → (run S mode arrivals (next_tick m)).state.over ≡ false → arriving arrivals (next_tick m) ≡ arrived
    → (before_execution_in (system_of m.processor) arrived (picture m.processor)).state ≡ kept S (step_at S mode arrivals (next_tick m)).executing
executing_told counted S mode arrivals m arrived proper come going arrive =
    let n : ℕ = next_tick m in
    ap₂ (λ (T : System) v. (before_execution_in T v (picture m.processor)).state) come.at.system (sym arrive)
    ∙ there S proper mode arrivals n (picture m.processor) come.at.same (arriving arrivals n) _ refl
    ∙ ap (kept S) (step_is S proper mode arrivals n (picture m.processor) come.at.same going)

-- ---- what a tick works on, before it

module _ (counted : Bool) (w : Watched) (n : ℕ) (opening : List TraceEvent) (acted : Acted)
    (h : IsMachine counted w.processor.objects.tick (between w n opening acted))
    (low : n < MAX_TICKS) where
  abbrev pub here : System
  here = system_of w.processor

  same : picture (at_tick w.processor n) ≡ kept here (run here h.of_run.mode h.of_run.arrivals n).state
  same = h.of_run.come.at.same

  alarms_ahead : n ≡ 0 → AreAhead w.processor.objects.alarms
  alarms_ahead zero_is =
      subst AreAhead
      (sym (ap (λ (k : Kept). k.alarms) same ∙ ap (λ t. (run here h.of_run.mode h.of_run.arrivals t).state.alarms) zero_is
      ∙ alarms_begun here h.of_run.mode h.of_run.arrivals))
      (starting_ahead here h.of_run.mode h.of_run.proper)

  before_tick : IsBefore n w.processor
  before_tick = record {
    clock = h.before;
    limit = low;
    ready = ap runner_waits same ∙ ready_between_ticks here h.of_run.mode h.of_run.arrivals n h.of_run.proper;
    alarms = ap (λ (k : Kept). length k.alarms) same ∙ (run_form here h.of_run.proper h.of_run.mode h.of_run.arrivals n).formed.alarms;
    ahead = alarms_ahead;
  }

  may_act : MayAct counted w
  may_act = record {
    ready = before_tick.ready;
    each = λ on.
        counted_of here w.blocking.stamps (stamps_of here h.of_run.mode h.of_run.arrivals n) (run here h.of_run.mode h.of_run.arrivals n).state
        (picture (at_tick w.processor n)) (h.of_run.come.at.stamped on) same;
  }

  pub may_start : (records : List TraceEvent) → records ≡ opening → MayStart counted n w records
  may_start records is = record {
    before = before_tick;
    may = may_act;
    room = subst (λ (v : List TraceEvent). length v ≤ 3) (sym is) h.few;
    none_later = λ later. is ∙ h.none_later later;
  }

  module _ (arrived : List ℕ) (st bg : Watched) (first second : List TraceEvent) (on : (picture (at_tick w.processor n)).over ≡ false)
      (one : Watches counted (early arrived) n (watched_at w n) st first second) (two : Begins counted n st bg) where
    begun_is : picture bg.processor ≡ kept here (before_execution here arrived (run here h.of_run.mode h.of_run.arrivals n).state).state
    begun_is =
        ap picture two.processor
        ∙ there here h.of_run.proper h.of_run.mode h.of_run.arrivals n (picture (at_tick w.processor n)) same arrived (picture st.processor) one.does.kept

    few : (bg.processor.objects.suspended_all ≤ n) × (bg.processor.objects.suspended_os ≤ n)
    few =
        let nested = few_nested here h.of_run.mode h.of_run.arrivals n arrived h.of_run.proper in (
          subst (λ k. k ≤ n) (sym (ap (λ (k : Kept). k.suspended_all) begun_is)) nested.0,
          subst (λ k. k ≤ n) (sym (ap (λ (k : Kept). k.suspended_os) begun_is)) nested.1,
        )

    may_execute : MayExecute bg.processor
    may_execute = record {
      serves = subst (λ T. MayServe T (picture bg.processor)) (sym (ap system_of two.processor ∙ one.does.system))
          (subst (MayServe here) (sym begun_is) (serves_in_runs here h.of_run.mode h.of_run.arrivals n arrived h.of_run.proper));
      all = let less = few.0 in omega (arith, less, low);
      os = let less = few.1 in omega (arith, less, low);
    }

    -- a run to here, in which these interrupts arrive
    abbrev with_these : List Arrival
    with_these = with_arrived n arrived h.of_run.arrivals

    at_these : IsAt counted here h.of_run.mode with_these n (between w n opening acted)
    at_these =
        at_past here h.of_run.mode h.of_run.arrivals with_these counted n (between w n opening acted)
        (λ t less. sym (earlier n t arrived h.of_run.arrivals less)) h.of_run.come.at

    going_these : (run here h.of_run.mode with_these n).state.over ≡ false
    going_these = sym (ap (λ (k : Kept). k.over) at_these.same) ∙ on

    arrive_these : arriving with_these n ≡ arrived
    arrive_these = present n arrived h.of_run.arrivals

    each_counted : counted ≡ true → AreCounted bg.blocking.stamps (picture bg.processor)
    each_counted counting =
        let k = picture (at_tick w.processor n) in
        let told = one.stamps counting ∙ ap (λ v. before_restamped here n v k w.blocking.stamps) (sym arrive_these) in
        let are = begun_listed here h.of_run.proper h.of_run.mode with_these n k at_these.same going_these w.blocking.stamps st.blocking.stamps told (at_these.stamped counting) in
        subst (AreCounted bg.blocking.stamps) (sym (ap picture two.processor))
        (counted_spent here h.of_run.proper h.of_run.mode with_these n k at_these.same going_these (picture st.processor)
        (one.does.kept ∙ ap (λ v. (before_execution_in here v k).state) (sym arrive_these)) st.blocking.stamps are bg.blocking.stamps (two.blocking.spent counting).stamps)

    pub has_begun : HasBegun counted bg
    has_begun = record { may = may_execute; each = each_counted }

-- ---- what a tick does, by its phases

pub record Phases (counted : Bool) (arrived : List ℕ) (n : ℕ) (old st bg ex la : Watched) (first second during behind : List TraceEvent) (event : TraceEvent) : Type 0 where
  pub one : Watches counted (early arrived) n old st first second
  pub two : Begins counted n st bg
  pub three : Watches counted executing (n + 1) bg ex [] (event ∷ during)
  pub four : Watches counted last (n + 1) ex la during behind

module _ (counted : Bool) (arrived : List ℕ) (n : ℕ) (w st bg ex la : Watched) (first second during behind : List TraceEvent) (event : TraceEvent)
    (phases : Phases counted arrived n w st bg ex la first second during behind event) (S : System) (here_is : system_of w.processor ≡ S) where
  abbrev k : Kept
  k = picture w.processor

  system_bg : system_of bg.processor ≡ S
  system_bg = ap system_of phases.two.processor ∙ phases.one.does.system ∙ here_is

  bg_is : picture bg.processor ≡ (before_execution_in S arrived k).state
  bg_is = ap picture phases.two.processor ∙ phases.one.does.kept ∙ ap (λ T. (before_execution_in T arrived k).state) here_is

  system_ex : system_of ex.processor ≡ S
  system_ex = phases.three.does.system ∙ system_bg

  ex_is : picture ex.processor ≡ (execute_phase_in S (picture bg.processor)).state
  ex_is = phases.three.does.kept ∙ ap (λ T. (execute_phase_in T (picture bg.processor)).state) system_bg

  pub system_la : system_of la.processor ≡ S
  system_la = phases.four.does.system ∙ system_ex

  after_is : record (picture la.processor) { tick = la.processor.objects.tick + 1 } ≡ (tick_in S arrived k).after
  after_is =
      ap (λ (o : Kept). record o { tick = o.tick + 1 })
      (phases.four.does.kept ∙ ap (λ T. (last_phase_in T (picture ex.processor)).state) system_ex
      ∙ ap (λ o. (last_phase_in S o).state) (ex_is ∙ ap (λ o. (execute_phase_in S o).state) bg_is))
      ∙ sym (tick_after S arrived k)

  pub events_are : second ++ event ∷ behind ≡ first ++ (tick_in S arrived k).events
  events_are =
      let e1 : List TraceEvent = (before_execution_in S arrived k).events in
      let e2 : List TraceEvent = (execute_phase_in S (before_execution_in S arrived k).state).events in
      let e3 : List TraceEvent = (last_phase_in S (execute_phase_in S (before_execution_in S arrived k).state).state).events in
      let before : second ≡ first ++ e1 = phases.one.does.events ∙ ap (λ T. first ++ (before_execution_in T arrived k).events) here_is in
      let done : event ∷ during ≡ e2 =
      phases.three.does.events ∙ ap (λ T. (execute_phase_in T (picture bg.processor)).events) system_bg ∙ ap (λ o. (execute_phase_in S o).events) bg_is in
      let late : behind ≡ during ++ e3 =
      phases.four.does.events ∙ ap (λ T. during ++ (last_phase_in T (picture ex.processor)).events) system_ex
      ∙ ap (λ o. during ++ (last_phase_in S o).events) (ex_is ∙ ap (λ o. (execute_phase_in S o).state) bg_is) in
      ap₂ (λ u v. u ++ event ∷ v) before late
      ∙ ap (λ v. (first ++ e1) ++ (v ++ e3)) done
      ∙ append_assoc first e1 (e2 ++ e3)
      ∙ ap (λ v. first ++ v) (sym (tick_events S arrived k))

  -- a run that had come to the machine before it
  module _ (proper : IsProper S) (mode : ℕ) (arrivals : List Arrival) (unwritten : List TraceEvent) (acted : Acted)
      (at : IsAt counted S mode arrivals n (record { processor = w.processor; blocking = w.blocking; unwritten = unwritten; acted = acted }))
      (on : k.over ≡ false) (arrive : arriving arrivals n ≡ arrived) where
    going : (run S mode arrivals n).state.over ≡ false
    going = sym (ap (λ (o : Kept). o.over) at.same) ∙ on

    pub number : la.processor.objects.tick ≡ n
    number =
        let one : la.processor.objects.tick + 1 ≡ n + 1 =
        ap (λ (o : Kept). o.tick) after_is ∙ number_after S proper mode arrivals n k at.same arrived going in
        omega arith

    pub after_tick : picture (at_tick la.processor (n + 1)) ≡ (tick_in S arrived k).after
    after_tick = ap (λ t. picture (at_tick la.processor (t + 1))) (sym number) ∙ after_is

    -- has come to the machine behind it
    pub comes : (rest : List TraceEvent) (now : Acted) → rest ≡ [] → now ≡ acted_in S k
        → HasCome counted S mode arrivals (n + 1) (between la (n + 1) rest now)
    comes rest now none now_is =
        let before : picture st.processor ≡ (before_execution_in S (arriving arrivals n) k).state =
        sym (ap picture phases.two.processor) ∙ bg_is ∙ ap (λ v. (before_execution_in S v k).state) (sym arrive) in
        let restamped = λ (counting : counted ≡ true).
        phases.one.stamps counting ∙ ap₂ (λ T v. before_restamped T n v k w.blocking.stamps) here_is (sym arrive) in
        let are = λ (counting : counted ≡ true).
        begun_listed S proper mode arrivals n k at.same going w.blocking.stamps st.blocking.stamps (restamped counting) (at.stamped counting) in
        let system_st : system_of st.processor ≡ S = phases.one.does.system ∙ here_is in
        let last_is = phases.four.told ∙ phases.three.told in
        record {
          at = record {
            system = system_la;
            same =
                after_tick ∙ ap (λ v. (tick_in S v k).after) (sym arrive) ∙ further S proper mode arrivals n k at.same going;
            unwritten = none ∙ sym (unwritten_more S mode arrivals n going);
            stamped = λ counting.
                after_told S proper mode arrivals n k at.same going (picture st.processor) before st.blocking.stamps (are counting)
                (picture ex.processor) bg.blocking.stamps ex.blocking.stamps la.blocking.stamps
                (ex_is ∙ ap (λ p. (execute_phase_in S (picture p)).state) phases.two.processor) ((phases.two.blocking.spent counting).stamps)
                (phases.three.stamps counting ∙ ap₂ (λ T p. executed_restamped T (n + 1) (picture p) bg.blocking.stamps) system_bg phases.two.processor)
                (phases.four.stamps counting ∙ ap (λ T. last_restamped T (n + 1) (picture ex.processor) ex.blocking.stamps) system_ex);
            levels = λ counting.
                levels_told S proper mode arrivals n k at.same going (picture st.processor) before st.blocking.stamps (are counting)
                w.blocking.told.last la.blocking.told.last (at.levels counting)
                (ap (λ (t : Told). t.last) last_is ∙ (phases.two.blocking.spent counting).last
                ∙ ap₂ (λ T (t : Told). noted T n (caller_in (picture st.processor)) t.last) system_st phases.one.told);
          };
          numbered = λ counting later.
              number_told S proper mode arrivals n k at.same going (picture st.processor) before st.blocking.stamps (are counting)
              w.blocking.told.last (number_of la.blocking.told) (at.levels counting)
              (ap number_of last_is ∙ (phases.two.blocking.spent counting).number
              ∙ ap₂ (λ T (t : Told). number_for T (caller_in (picture st.processor)) t.last st.blocking.stamps) system_st phases.one.told);
          acted = λ later.
              let one : n + 1 - 1 ≡ n = omega arith in
              now_is ∙ ap (acted_in S) at.same ∙ acted_told S proper mode arrivals n ∙ ap (acted_at S mode arrivals) (sym one);
        }

-- ---- a machine's tick

pub record IsTicked (counted : Bool) (arrived : List ℕ) (old new : Machine) (clock : ℕ) (records : List TraceEvent) : Type 0 where
  pub ticks : Ticks arrived old new records
  pub goes_on : GoesOn counted arrived old new
  pub keeps : IsMachine counted clock new

pub ticked : (counted : Bool) (arrived : List ℕ) (n : ℕ) (w st bg ex la : Watched) (opening rest first second during behind : List TraceEvent) (acted now : Acted)
    (event : TraceEvent) → IsMachine counted w.processor.objects.tick (between w n opening acted) → n < MAX_TICKS → (picture (at_tick w.processor n)).over ≡ false
    → AllByRecursion (λ i. i < length (system_of w.processor).routines) arrived → first ≡ opening → rest ≡ []
    → now ≡ acted_in (system_of w.processor) (picture (at_tick w.processor n))
    → Phases counted arrived n (watched_at w n) st bg ex la first second during behind event
    → IsTicked counted arrived (between w n opening acted) (between la (n + 1) rest now) la.processor.objects.tick (second ++ event ∷ behind)
ticked counted arrived n w st bg ex la opening rest first second during behind acted now event h low on known first_is none now_is phases =
    let S : System = system_of w.processor in
    let r = h.of_run in
    let others : List Arrival = with_arrived n arrived r.arrivals in
    let at : IsAt counted S r.mode others n (between w n opening acted) =
    at_past S r.mode r.arrivals others counted n (between w n opening acted) (λ t less. sym (earlier n t arrived r.arrivals less)) r.come.at in
    let arrive : arriving others n ≡ arrived = present n arrived r.arrivals in
    let system : system_of la.processor ≡ S =
    system_la counted arrived n (watched_at w n) st bg ex la first second during behind event phases S refl in
    let number_is : la.processor.objects.tick ≡ n =
    number counted arrived n (watched_at w n) st bg ex la first second during behind event phases S refl r.proper r.mode others opening acted at on arrive in
    record {
      ticks = record {
        system = system;
        after = after_tick counted arrived n (watched_at w n) st bg ex la first second during behind event phases S refl r.proper r.mode others opening acted at on arrive;
        events =
            events_are counted arrived n (watched_at w n) st bg ex la first second during behind event phases S refl
            ∙ ap (λ v. v ++ (tick_in S arrived (picture (at_tick w.processor n))).events) first_is;
        unwritten = none;
        next = refl;
      };
      goes_on = λ mode arrivals here come.
          subst (λ T. HasCome counted T mode arrivals (n + 1) (between la (n + 1) rest now)) (sym system)
          (comes counted arrived n (watched_at w n) st bg ex la first second during behind event phases S refl r.proper mode arrivals opening acted come.at on here rest now none now_is);
      keeps = record {
        before = omega (arith, number_is);
        limit = omega (arith, low);
        few = let size : length rest ≡ 0 = ap (λ (v : List TraceEvent). length v) none in omega (arith, size);
        none_later = λ later. none;
        of_run = record {
          proper = subst IsProper (sym system) r.proper;
          mode = r.mode;
          arrivals = others;
          arrive = subst (λ T. AreArrivals T others) (sym system) (takes_any_arrivals S n arrived r.arrivals low known r.arrive);
          come =
              subst (λ T. HasCome counted T r.mode others (n + 1) (between la (n + 1) rest now)) (sym system)
              (comes counted arrived n (watched_at w n) st bg ex la first second during behind event phases S refl r.proper r.mode others opening acted at on arrive rest now none now_is);
        };
      };
    }

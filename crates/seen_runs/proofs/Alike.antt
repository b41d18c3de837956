-- What is seen of a tick in which nothing comes to anything, by what is kept of the state at rest, which stays the same.
use Rattle.std.proofs.Common.{◌≡◌, ℕ, ◌+◌, ◌-◌, ◌<◌, ◌≤◌, Bool, false, cond, List, [], ◌∷◌, ◌++◌, map, length, refl, sym, ◌∙◌, ap, ap₂, subst, arith}
use Rattle.std.specs.Prelude.{Option, Some, None, IfSome, ◌&&◌, ◌||◌, ◌==◌, nat_le, slice_index_or}
use Rattle.std.specs.Option.{option_map}
use Rattle.std.specs.List.{find}
use Rattle.std.proofs.Math.Path.{fun_ext}
use Rattle.seen_ticks.specs.declared.observation.Observation.{Observation}
use Rattle.seen_ticks.specs.declared.task_seen.TaskSeen.{TaskSeen}
use Rattle.osek_base.specs.declared.arrivals.Arrival.{Arrival}
use Rattle.osek_base.specs.declared.executed.Executed.{Executed}
use Rattle.osek_base.specs.declared.ids.Owner.{Owner}
use Rattle.osek_base.specs.declared.ids.ResId.{ResId}
use Rattle.osek_base.specs.declared.trace_event.TraceEvent.{TraceEvent}
use Rattle.osek_base.specs.Alarm.{alarms_advanced}
use Rattle.osek_base.specs.Executed.{StandsIn, idle_or_executed}
use Rattle.osek_base.specs.Lists.{below, same_owner}
use Rattle.osek_base.specs.Proper.{IsProper}
use Rattle.osek_base.specs.State.{State, jobs_of}
use Rattle.osek_base.specs.System.{System}
use Rattle.osek_base.specs.Tick.{before_execution}
use Rattle.osek_base.specs.Trace.{Run, arriving, run}
use Rattle.law_runs.proofs.FormedPhases.{before_form}
use Rattle.law_runs.proofs.FormedTick.{run_form}
use Rattle.law_runs.proofs.RankedTick.{IsExecuting, IsRunState, before_executing, run_ordered}
use Rattle.law_blockers.specs.Steps.{record_at, step_at}
use Rattle.law_blockers.proofs.StampLemmas.{Going}
use Rattle.law_blockers.proofs.StepLemmas.{executing_is, run_more}
use Rattle.law_kept.specs.Kept.{Kept, kept}
use Rattle.law_kept.specs.KeptService.{holds_in}
use Rattle.law_kept.specs.Seen.{holder_in, routine_of}
use Rattle.law_kept.proofs.Ticked.{known_of, settled_of}
use Rattle.kernel.specs.Progress.{HasIdled, Progress, is_over, run_of}
use Rattle.kernel.specs.Working.{HasWorked, at_rest}
use Rattle.seen_ticks.specs.Told.{refused_of, task_at, task_at_in}
use Rattle.seen_ticks.proofs.SeenLemmas.{counted as counted_jobs, task_is}
use Rattle.seen_runs.specs.declared.before.Before.{Before}
use Rattle.seen_ticks.specs.declared.execution.Execution.{Execution}
use Rattle.kernel.specs.declared.at_instruction.AtInstruction.{AtInstruction}
use Rattle.seen_runs.specs.Keeping.{AreStanding, HasGoneSteadily, IsBefore, IsTold, coming, last_tick}
use Rattle.seen_runs.specs.Passing.{IsUnanswered, HasStayed, LeavesAll, PassesAlike, StaysAlike, task_left}
use Rattle.seen_runs.specs.Resting.{IsRest, resting_alarm, resting_routine}
use Rattle.seen_runs.specs.Tasks.{MakesNone}
use Rattle.seen_runs.proofs.Resting.{alarms_rest, routines_rest}
use Rattle.seen_ticks.specs.declared.task_at.TaskAt.{TaskAt}
use Rattle.seen_ticks.specs.Observed.{IsObserved, IsSeen, Ticked, activates, active_routine, alarm_seen, answered, ending, executed_in, failure_by, failure_of, holders_seen, instruction, is_accepted, is_by, is_end, is_limit, is_number, is_waiting, jobs_before, moved, moves, one_if, owner_of, refusing, routine_seen, state_seen, status_of, task_of, task_seen, tick_at}
use Rattle.seen_ticks.proofs.Staying.{holding}
use Rattle.seen_runs.proofs.Seeing.{one_on}

-- ---- a task, between two ticks and at the instruction of one

module _ (S : System) (proper : IsProper S) (mode : ℕ) (arrivals : List Arrival) (n : ℕ) where
  pub task_between : (t : ℕ) → task_at_in S (kept S (run S mode arrivals n).state) t ≡ task_at S (run S mode arrivals n).state t
  task_between =
      let s : State = (run S mode arrivals n).state in
      let good : IsRunState S s = run_ordered S proper mode arrivals n in
      task_is S s (settled_of S s good.single good.ordered.ranked) (known_of S s (run_form S proper mode arrivals n))

  pub task_executing : Going S mode arrivals n → (t : ℕ)
      → task_at_in S (kept S (step_at S mode arrivals n).executing) t ≡ task_at S (step_at S mode arrivals n).executing t
  task_executing going t =
      let s : State = (run S mode arrivals n).state in
      let e : State = (before_execution S (arriving arrivals n) s).state in
      let executing : IsExecuting S proper e = before_executing S proper (arriving arrivals n) s (run_ordered S proper mode arrivals n) in
      let settled = settled_of S e executing.good.single executing.good.ordered.ranked in
      let known = known_of S e (before_form S proper (arriving arrivals n) s (run_form S proper mode arrivals n)) in
      subst (λ s. task_at_in S (kept S s) t ≡ task_at S s t) (executing_is S mode arrivals n going) (task_is S e settled known t)

-- ---- by what is kept, and who executes

abbrev by_owner : Owner → Option Owner → Bool
by_owner w None = false
by_owner w (Some who) = same_owner w who

abbrev pub alike_task : System → Kept → Option Owner → ℕ → TaskSeen
alike_task S o who t =
    record {
      state = state_seen (by_owner (Owner.Task t) who) (task_at_in S o t).state;
      priority = (task_at_in S o t).priority;
      jobs = (task_at_in S o t).jobs;
      made = 0;
      refused = 0;
      ended = false;
      waits = by_owner (Owner.Task t) who && is_waiting (task_at_in S o t).state;
    }

abbrev active_of : Kept → Option ℕ
active_of x = option_map routine_of x.active

abbrev pub holders_by : System → (ResId → Option ℕ) → List (Option ℕ)
holders_by S h =
    map (λ r. h (ResId.Declared r)) (below (length S.resources)) ++ cond S.use_res_scheduler (h ResId.Scheduler ∷ []) []

pub record IsAlike (S : System) (o : Kept) (who : Option Owner) (seen : Observation) : Type 0 where
  pub executor : seen.executor ≡ who
  pub answered : seen.answered ≡ None
  pub failure : seen.failure ≡ None
  pub tasks : seen.tasks.items ≡ map (alike_task S o who) (below (length S.tasks))
  pub routines : seen.routines.items ≡ map (resting_routine o.pending) (below (length S.routines))
  pub holders : seen.holders.items ≡ holders_by S (holder_in S o)
  pub alarms : seen.alarms.items ≡ map resting_alarm (below (length S.alarms))

-- who holds what, by what is kept of a state at rest
pub holders_kept : (S : System) (s : State) (o : Kept) → at_rest (kept S s) ≡ at_rest o
    → holders_seen S s ≡ holders_by S (holder_in S o)
holders_kept S s o same =
    ap (holders_by S) (fun_ext (λ r.
    ap (λ p. find p (below (length S.tasks))) (fun_ext (λ t.
    sym (holding r (jobs_of t s.jobs)) ∙ ap (λ (k : Kept). holds_in r (k.slots t)) same))))

-- who executes, by whom the instruction is
by_same : (w : Owner) (e : Option Executed) (who : Option Owner) → option_map owner_of e ≡ who → is_by w e ≡ by_owner w who
by_same w None who same = ap (by_owner w) same
by_same w (Some e) who same = ap (by_owner w) same

-- a record tells what was executed
executed_again : (S : System) (e : Option Executed) → executed_in (idle_or_executed S e ∷ []) ≡ e
executed_again S None = refl
executed_again S (Some e) = refl

-- ---- such a tick

abbrev alike_tick : State → State → State → Option Executed → Ticked
alike_tick before at after e =
    record { first = false; before = before; at = at; after = after; executed = e; due = []; refused = []; arrived = [] }

-- tick n, where this was kept at rest, and who executes
module _ (counted : Bool) (S : System) (proper : IsProper S) (mode : ℕ) (arrivals : List Arrival) (n : ℕ) (o : Kept)
    (who : Option Owner) (not_first : 1 ≤ n) (going : (run S mode arrivals n).state.over ≡ false)
    (stays : StaysAlike counted S mode arrivals n o who) where
  abbrev before : State
  before = (run S mode arrivals n).state

  abbrev at : State
  at = (step_at S mode arrivals n).executing

  abbrev after : State
  after = (step_at S mode arrivals n).after

  abbrev e : Option Executed
  e = stays.executed

  later_on : (n == 0) ≡ false
  later_on = grind (arith, not_first)

  executed_is : executed_in (record_at S mode arrivals n) ≡ e
  executed_is = ap executed_in stays.recorded ∙ executed_again S e

  tick_is : tick_at S mode arrivals n ≡ alike_tick before at after e
  tick_is = λ i. record {
    first = later_on i;
    before = before;
    at = at;
    after = after;
    executed = executed_is i;
    due = stays.none_due i;
    refused = ap (λ due. refused_of S due (record before { alarms = alarms_advanced S before })) stays.none_due i;
    arrived = stays.none_arrive i;
  }

  -- as many jobs
  same_count : (t : ℕ) → length (jobs_of t after.jobs) ≡ length (jobs_of t before.jobs)
  same_count t =
      sym (counted_jobs (jobs_of t after.jobs)) ∙ ap (λ (x : Kept). (x.slots t).count) stays.behind
      ∙ sym (ap (λ (x : Kept). (x.slots t).count) stays.before) ∙ counted_jobs (jobs_of t before.jobs)

  task_at_is : (t : ℕ) → task_at S at t ≡ task_at_in S o t
  task_at_is t = sym (task_executing S proper mode arrivals n going t) ∙ ap (λ x. task_at_in S x t) stays.at

  after_is : (run S mode arrivals (n + 1)).state ≡ after
  after_is = ap (λ (r : Run). r.state) (run_more S mode arrivals n going)

  task_behind : (t : ℕ) → task_at S after t ≡ task_at_in S o t
  task_behind t =
      ap (λ (s : State). task_at S s t) (sym after_is) ∙ sym (task_between S proper mode arrivals (n + 1) t)
      ∙ ap (λ (s : State). task_at_in S (kept S s) t) after_is ∙ ap (λ x. task_at_in S x t) stays.behind

  one_task : (t : ℕ) → task_seen S (alike_tick before at after e) t ≡ alike_task S o who t
  one_task t =
      let same = same_count t in
      let none_made : length (jobs_of t after.jobs) + 0 - length (jobs_of t before.jobs) ≡ 0 = omega (arith, same) in
      let own : is_by (Owner.Task t) e ≡ by_owner (Owner.Task t) who = by_same (Owner.Task t) e who stays.owner in
      let made : length (jobs_of t after.jobs) + one_if (is_number t (ending S e)) - length (jobs_of t before.jobs) ≡ 0 =
      ap (λ x. length (jobs_of t after.jobs) + one_if (is_number t x) - length (jobs_of t before.jobs)) stays.ends ∙ none_made in
      λ i. record {
        state = state_seen (own i) (task_at_is t i).state;
        priority = (task_at_is t i).priority;
        jobs = (task_at_is t i).jobs;
        made = made i;
        refused = ap (λ x. one_if (is_number t x) + 0) stays.refuses i;
        ended = ap (is_number t) stays.ends i;
        waits = own i && is_waiting (task_behind t i).state;
      }

  pub rest : IsRest (tick_at S mode arrivals n)
  rest = record {
    none_due = ap (λ (k : Ticked). k.due) tick_is;
    none_refused = ap (λ (k : Ticked). k.refused) tick_is;
    none_arrive = ap (λ (k : Ticked). k.arrived) tick_is;
    no_routine = λ i. ap (is_by (Owner.Routine i)) executed_is ∙ stays.no_routine i;
    pending = ap (λ (x : Kept). x.pending) (stays.at ∙ sym stays.before);
  }

  -- nothing comes to anything
  pub all_left : LeavesAll S (tick_at S mode arrivals n)
  all_left = record {
    each = λ t.
        let own : is_by (Owner.Task t) e ≡ by_owner (Owner.Task t) who = by_same (Owner.Task t) e who stays.owner in
        let left : alike_task S o who t ≡ task_left (is_by (Owner.Task t) e) (task_at S after t) =
        sym (ap₂ task_left own (task_behind t)) in
        ap (λ k. task_seen S k t) tick_is ∙ one_task t ∙ left
        ∙ ap (λ x. task_left (is_by (Owner.Task t) x) (task_at S after t)) (sym executed_is);
    rest = rest;
  }

  tasks_are : map (task_seen S (tick_at S mode arrivals n)) (below (length S.tasks)) ≡ map (alike_task S o who) (below (length S.tasks))
  tasks_are =
      ap (λ k. map (task_seen S k) (below (length S.tasks))) tick_is
      ∙ ap (λ (f : ℕ → TaskSeen). map f (below (length S.tasks))) (fun_ext one_task)

  routines_are : map (routine_seen (tick_at S mode arrivals n)) (below (length S.routines))
      ≡ map (resting_routine o.pending) (below (length S.routines))
  routines_are =
      routines_rest (tick_at S mode arrivals n) rest (length S.routines)
      ∙ ap (λ (x : Kept). map (resting_routine x.pending) (below (length S.routines))) stays.at

  alarms_are : map (alarm_seen (tick_at S mode arrivals n)) (below (length S.alarms)) ≡ map resting_alarm (below (length S.alarms))
  alarms_are = alarms_rest (tick_at S mode arrivals n) rest (length S.alarms)

  pub alike_seen : (seen : Observation) → IsSeen S (tick_at S mode arrivals n) seen → IsAlike S o who seen
  alike_seen seen is = record {
    executor = is.executor ∙ ap (option_map owner_of) executed_is ∙ stays.owner;
    answered = is.answered ∙ ap answered executed_is ∙ stays.answer;
    failure = is.failure ∙ ap failure_of executed_is ∙ stays.failure;
    tasks = is.tasks ∙ tasks_are;
    routines = is.routines ∙ routines_are;
    holders = is.holders ∙ holders_kept S at o stays.at;
    alarms = is.alarms ∙ alarms_are;
  }

  pub seen_alike : (seen : Observation) (tick : ℕ) → IsAlike S o who seen
      → IsSeen S (tick_at S mode arrivals n) (record seen { tick = tick })
  seen_alike seen tick is = record {
    executor = is.executor ∙ sym (ap (option_map owner_of) executed_is ∙ stays.owner);
    answered = is.answered ∙ sym (ap answered executed_is ∙ stays.answer);
    failure = is.failure ∙ sym (ap failure_of executed_is ∙ stays.failure);
    tasks = is.tasks ∙ sym tasks_are;
    routines = is.routines ∙ sym routines_are;
    holders = is.holders ∙ sym (holders_kept S at o stays.at);
    alarms = is.alarms ∙ sym alarms_are;
  }

  -- ---- what is told of it, by the state behind it

  pub alike_told : (now : State) → now ≡ after → (x : Execution) (ahead behind_it : List TraceEvent) (last : Option Executed)
      → x.executed ≡ last → x.ending ≡ None → x.refusing ≡ None → x.moved ≡ false
      → IfSome last (StandsIn S) → ahead ≡ [] → behind_it ≡ []
      → record_at S mode arrivals n ≡ idle_or_executed S last ∷ []
      → IsTold S mode arrivals n now x ahead behind_it
  alike_told now behind x ahead behind_it last executed ends refuses moves_none there none_ahead none_behind recorded =
      let last_is : executed_in (record_at S mode arrivals n) ≡ last = ap executed_in recorded ∙ executed_again S last in
      let few_ahead = ap (λ (v : List TraceEvent). length v) none_ahead in
      let few_behind = ap (λ (v : List TraceEvent). length v) none_behind in
      record {
        on = going;
        behind = behind;
        done = record {
          executed = executed ∙ sym last_is;
          ending = ends ∙ sym (ap (ending S) executed_is ∙ stays.ends);
          refusing = refuses ∙ sym (ap (refusing S) executed_is ∙ stays.refuses);
          moved = moves_none ∙ sym (ap (moved S) executed_is ∙ stays.moves);
        };
        records = record {
          recorded =
              ap₂ (λ (u v : List TraceEvent). u ++ idle_or_executed S x.executed ∷ v) none_ahead none_behind
              ∙ ap (λ v. idle_or_executed S v ∷ []) executed ∙ sym recorded;
          there = subst (λ v. IfSome v (StandsIn S)) (sym executed) there;
          few = omega (arith, few_ahead, few_behind);
        };
      }

-- ---- ticks of a kernel

-- in which nobody executes
pub idle_stays : (counted : Bool) (most n : ℕ) (old new : Progress) → HasIdled most old new n
    → HasStayed counted most old new n None
idle_stays counted most n old new idled = record {
  few = idled.few;
  not_first = idled.not_first;
  going = idled.going;
  who = None;
  stays = λ k low.
      let leaves = idled.stays k low in
      record {
        none_arrive = leaves.none_arrive;
        none_due = leaves.none_due;
        no_blockers = λ _. leaves.no_blockers;
        executed = None;
        recorded = idled.records k low;
        owner = refl;
        no_routine = λ i. refl;
        answer = refl;
        failure = refl;
        ends = refl;
        refuses = refl;
        moves = refl;
        before = ap at_rest leaves.before;
        at = ap at_rest leaves.at;
        behind = ap at_rest leaves.behind;
      };
  recorded = λ some. idled.records (n - 1) (omega (arith, some));
  next = idled.next;
}

-- what a task executes no routine does
by_task : (e : Executed) (running : Option ℕ) → Some e.owner ≡ option_map Owner.Task running → (i : ℕ)
    → is_by (Owner.Routine i) (Some e) ≡ false
by_task e running who i = ap (λ x. by_owner (Owner.Routine i) x) who ∙ none running
  where
    none : (running : Option ℕ) → by_owner (Owner.Routine i) (option_map Owner.Task running) ≡ false
    none None = refl
    none (Some t) = refl

-- in which the running task works
pub work_stays : (counted : Bool) (most n : ℕ) (old new : Progress) (last : Option Executed)
    → HasWorked counted most old new n last → HasStayed counted most old new n last
work_stays counted most n old new last worked = record {
  few = worked.few;
  not_first = worked.not_first;
  going = worked.going;
  who = option_map Owner.Task (kept old.system (run_of old).state).running;
  stays = λ k low.
      let leaves = worked.stays k low in
      let e : Executed = leaves.executed in
      let plain = leaves.work.plain in
      record {
        none_arrive = leaves.none_arrive;
        none_due = leaves.none_due;
        no_blockers = leaves.no_blockers;
        executed = Some e;
        recorded = leaves.work.recorded;
        owner = leaves.work.who;
        no_routine = by_task e (kept old.system (run_of old).state).running leaves.work.who;
        answer = ap status_of plain;
        failure = ap (λ x. failure_by e (status_of x)) plain;
        ends = ap (λ x. cond (is_accepted x && is_end (instruction old.system e)) (task_of e.owner) None) plain;
        refuses = ap (λ x. cond (is_limit x) (activates (instruction old.system e)) None) plain;
        moves = ap (λ x. is_accepted x && moves (instruction old.system e)) plain;
        before = leaves.before;
        at = leaves.at;
        behind = leaves.behind;
      };
  recorded = worked.recorded;
  next = worked.next;
}

-- ---- a kernel that passes such ticks

-- what is noted behind a run's last tick, in which that was executed, and which ended, refused and moved nothing
pub record IsNoted (r : Progress) (last : Option Executed) (e : Execution) (ahead behind : List TraceEvent) : Type 0 where
  pub executed : e.executed ≡ last
  pub ending : e.ending ≡ None
  pub refusing : e.refusing ≡ None
  pub moved : e.moved ≡ false
  pub there : IfSome last (StandsIn r.system)
  pub none_ahead : ahead ≡ []
  pub none_behind : behind ≡ []

-- what is said of the last of so many ticks is said of the last one behind them
last_on : (k new : Progress) (n : ℕ) (P : System → ℕ → List Arrival → ℕ → Type 0) → new ≡ record k { ticks = k.ticks + n } → 0 < n
    → P k.system k.mode k.arrivals (k.ticks + (n - 1)) → P new.system new.mode new.arrivals (new.ticks - 1)
last_on k new n P next some h =
    let last : k.ticks + n - 1 ≡ k.ticks + (n - 1) = omega (arith, some) in
    subst (λ (r : Progress). P r.system r.mode r.arrivals (r.ticks - 1)) (sym next)
    (subst (λ m. P k.system k.mode k.arrivals m) (sym last) h)

module _ (counted : Bool) (most n : ℕ) (k new : Progress) (last : Option Executed) (stayed : HasStayed counted most k new n last)
    (some : 0 < n) where
  abbrev kept_then : Kept
  kept_then = kept k.system (run_of k).state

  last_low : n - 1 < n
  last_low = omega (arith, some)

  -- the state behind the last of them
  state_behind : (run k.system k.mode k.arrivals (k.ticks + n)).state ≡ (step_at k.system k.mode k.arrivals (k.ticks + (n - 1))).after
  state_behind =
      let one_more : k.ticks + n ≡ k.ticks + (n - 1) + 1 = omega (arith, some) in
      ap (λ m. (run k.system k.mode k.arrivals m).state) one_more
      ∙ ap (λ (r : Run). r.state) (run_more k.system k.mode k.arrivals (k.ticks + (n - 1)) (stayed.going (n - 1) last_low))

  not_first_at : (i : ℕ) → 1 ≤ k.ticks + i
  not_first_at i = let begun = stayed.not_first some in omega (arith, begun)

  pub stayed_told : IsProper k.system → (e : Execution) (ahead behind : List TraceEvent) → IsNoted new last e ahead behind
      → IsTold new.system new.mode new.arrivals (new.ticks - 1) (run_of new).state e ahead behind
  stayed_told proper e ahead behind noted =
      let is : IsNoted (record k { ticks = k.ticks + n }) last e ahead behind =
      subst (λ r. IsNoted r last e ahead behind) stayed.next noted in
      let state_is : (run_of new).state ≡ (run k.system k.mode k.arrivals (k.ticks + n)).state =
      ap (λ (r : Progress). (run_of r).state) stayed.next in
      last_on k new n (λ S mode arrivals m. IsTold S mode arrivals m (run_of new).state e ahead behind) stayed.next some
      (alike_told counted k.system proper k.mode k.arrivals (k.ticks + (n - 1)) kept_then stayed.who (not_first_at (n - 1))
      (stayed.going (n - 1) last_low) (stayed.stays (n - 1) last_low)
      (run_of new).state (state_is ∙ state_behind)
      e ahead behind last is.executed is.ending is.refusing is.moved is.there is.none_ahead is.none_behind (stayed.recorded some))

  -- ---- what is known before the tick that comes next, is known behind them, too
  abbrev behind_all : State
  behind_all = (step_at k.system k.mode k.arrivals (k.ticks + (n - 1))).after

  new_state : (run_of new).state ≡ behind_all
  new_state = ap (λ (r : Progress). (run_of r).state) stayed.next ∙ state_behind

  count_stays : (t : ℕ) → length (jobs_of t (run_of k).state.jobs) ≡ length (jobs_of t (run_of new).state.jobs)
  count_stays t =
      sym (counted_jobs (jobs_of t (run_of k).state.jobs))
      ∙ sym (ap (λ (x : Kept). (x.slots t).count) (stayed.stays (n - 1) last_low).behind)
      ∙ counted_jobs (jobs_of t behind_all.jobs) ∙ sym (ap (λ (s : State). length (jobs_of t s.jobs)) new_state)

  later_jobs : (t : ℕ) → (coming k).first ≡ false → (coming new).first ≡ false
      → jobs_before (coming k).first (coming k).before t ≡ jobs_before (coming new).first (coming new).before t
  later_jobs t was is =
      ap (λ first. jobs_before first (run_of k).state t) was ∙ count_stays t
      ∙ sym (ap (λ first. jobs_before first (run_of new).state t) is)

  pub pending_stays_so : (run_of k).state.pending ≡ (run_of new).state.pending
  pending_stays_so =
      sym (ap (λ (x : Kept). x.pending) (stayed.stays (n - 1) last_low).behind)
      ∙ sym (ap (λ (s : State). s.pending) new_state)

  active_stays : active_routine (run_of k).state ≡ active_routine (run_of new).state
  active_stays =
      sym (ap (λ (x : Kept). active_of x) (stayed.stays (n - 1) last_low).behind) ∙ sym (ap active_routine new_state)

  pub stayed_known : (known : Before) → IsBefore k.system (coming k) known → IsBefore new.system (coming new) known
  stayed_known known is =
      let ticks_are : new.ticks ≡ k.ticks + n = ap (λ (r : Progress). r.ticks) stayed.next in
      let begun = stayed.not_first some in
      let was : (k.ticks == 0) ≡ false = grind (arith, begun) in
      let later : (new.ticks == 0) ≡ false = grind (arith, begun, ticks_are) in
      subst (λ (S : System). IsBefore S (coming new) known) (sym (ap (λ (r : Progress). r.system) stayed.next))
      (record {
        jobs =
            is.jobs
            ∙ ap (λ (f : ℕ → ℕ). map f (below (length k.system.tasks))) (fun_ext (λ t. later_jobs t was later));
        pending =
            is.pending
            ∙ ap (λ (v : List Bool). map (λ i. slice_index_or v i false) (below (length k.system.routines))) pending_stays_so;
        active = is.active ∙ active_stays;
      })

  -- what tasks are before them, they are behind them
  pub stayed_standing : IsProper new.system → (at : AtInstruction) → AreStanding k at → AreStanding new at
  stayed_standing proper_now at stood =
      let proper : IsProper k.system = subst IsProper (ap (λ (r : Progress). r.system) stayed.next) proper_now in
      let each : (t : ℕ) → task_at k.system (run_of k).state t ≡ task_at k.system (run_of new).state t =
      λ t. sym (task_between k.system proper k.mode k.arrivals k.ticks t)
      ∙ sym (task_behind counted k.system proper k.mode k.arrivals (k.ticks + (n - 1)) kept_then stayed.who
      (not_first_at (n - 1)) (stayed.going (n - 1) last_low) (stayed.stays (n - 1) last_low) t)
      ∙ sym (ap (λ (s : State). task_at k.system s t) new_state) in
      subst (λ (S : System). at.tasks.items ≡ map (task_at S (run_of new).state) (below (length S.tasks)))
      (sym (ap (λ (r : Progress). r.system) stayed.next))
      (stood ∙ ap (λ (f : ℕ → TaskAt). map f (below (length k.system.tasks))) (fun_ext each))

  pub stayed_after : (run_of new).state ≡ (last_tick new).after
  stayed_after = last_on k new n (λ S mode arrivals m. (run_of new).state ≡ (tick_at S mode arrivals m).after) stayed.next some new_state

  -- and so are the pending routines, at the last one's instruction and behind it
  pub stayed_pending : (run_of k).state.pending ≡ (tick_at new.system new.mode new.arrivals (new.ticks - 1)).at.pending
  stayed_pending =
      last_on k new n (λ S mode arrivals m. (run_of k).state.pending ≡ (tick_at S mode arrivals m).at.pending) stayed.next some
      (sym (ap (λ (x : Kept). x.pending) (stayed.stays (n - 1) last_low).at))

  -- nothing comes to anything in the last of them
  pub stayed_all : IsProper new.system
      → LeavesAll new.system (tick_at new.system new.mode new.arrivals (new.ticks - 1))
  stayed_all proper_now =
      let proper : IsProper k.system = subst IsProper (ap (λ (r : Progress). r.system) stayed.next) proper_now in
      last_on k new n (λ S mode arrivals m. LeavesAll S (tick_at S mode arrivals m)) stayed.next some
      (all_left counted k.system proper k.mode k.arrivals (k.ticks + (n - 1)) kept_then stayed.who (not_first_at (n - 1))
      (stayed.going (n - 1) last_low) (stayed.stays (n - 1) last_low))

  pub stayed_holders : holders_seen new.system (run_of new).state
      ≡ holders_seen new.system (tick_at new.system new.mode new.arrivals (new.ticks - 1)).at
  stayed_holders =
      let stays = stayed.stays (n - 1) last_low in
      let state_is : (run_of new).state ≡ (step_at k.system k.mode k.arrivals (k.ticks + (n - 1))).after =
      ap (λ (r : Progress). (run_of r).state) stayed.next ∙ state_behind in
      last_on k new n (λ S mode arrivals m. holders_seen S (run_of new).state ≡ holders_seen S (tick_at S mode arrivals m).at)
      stayed.next some
      (ap (holders_seen k.system) state_is
      ∙ holders_kept k.system (step_at k.system k.mode k.arrivals (k.ticks + (n - 1))).after kept_then stays.behind
      ∙ sym (holders_kept k.system (step_at k.system k.mode k.arrivals (k.ticks + (n - 1))).executing kept_then stays.at))

  -- the last of them is answered nothing
  pub stayed_unanswered : IsUnanswered new
  stayed_unanswered =
      let stays = stayed.stays (n - 1) last_low in
      let told = ap executed_in stays.recorded ∙ executed_again k.system stays.executed in
      record {
        answer =
            last_on k new n (λ S mode arrivals m. answered (tick_at S mode arrivals m).executed ≡ None) stayed.next some
            (ap answered told ∙ stays.answer);
        failure =
            last_on k new n (λ S mode arrivals m. failure_of (tick_at S mode arrivals m).executed ≡ None) stayed.next some
            (ap failure_of told ∙ stays.failure);
      }

  -- who holds what before them holds it behind them
  pub stayed_held : holders_seen k.system (run_of k).state ≡ holders_seen new.system (run_of new).state
  stayed_held =
      holders_kept k.system (run_of k).state kept_then refl
      ∙ sym (holders_kept k.system behind_all kept_then (stayed.stays (n - 1) last_low).behind)
      ∙ ap (holders_seen k.system) (sym new_state)
      ∙ ap (λ (r : Progress). holders_seen r.system (run_of new).state) (sym stayed.next)

  -- before each of them the run goes on
  goes_on : k.ticks + most ≤ 1000000 → (i : ℕ) → i < n → is_over (record k { ticks = k.ticks + i }) ≡ false
  goes_on room i low =
      let within = stayed.few in
      let few : nat_le 1000000 (k.ticks + i) ≡ false = grind (arith, room, within, low) in
      ap (λ b. b || (run k.system k.mode k.arrivals (k.ticks + i)).state.over) few ∙ stayed.going i low

  pub passes_alike : (more : ℕ) → most ≤ more → k.ticks + most ≤ 1000000 → IsProper new.system
      → PassesAlike counted more k new n
  passes_alike more less room proper_now =
      let few = stayed.few in
      let ticks_are : new.ticks ≡ k.ticks + n = ap (λ (r : Progress). r.ticks) stayed.next in
      let last_is : new.ticks - 1 ≡ k.ticks + (n - 1) = omega (arith, ticks_are, some) in
      let proper : IsProper k.system = subst IsProper (ap (λ (r : Progress). r.system) stayed.next) proper_now in
      record {
        few = omega (arith, few, less);
        next = stayed.next;
        going = goes_on room;
        none_arrive = λ i low. (stayed.stays i low).none_arrive;
        none_due = λ i low. (stayed.stays i low).none_due;
        none_answered = λ i low.
            let stays = stayed.stays i low in
            record { executed = stays.executed; recorded = stays.recorded; answer = stays.answer };
        alike = λ i low seen is.
            let was = subst (λ m. IsObserved counted k.system k.mode k.arrivals m seen) last_is is in
            let alike =
            alike_seen counted k.system proper k.mode k.arrivals (k.ticks + (n - 1)) kept_then stayed.who (not_first_at (n - 1))
            (stayed.going (n - 1) last_low) (stayed.stays (n - 1) last_low) seen was.seen in
            record {
              number = refl;
              seen =
                  seen_alike counted k.system proper k.mode k.arrivals (k.ticks + i) kept_then stayed.who (not_first_at i)
                  (stayed.going i low) (stayed.stays i low) seen (k.ticks + i) alike;
              blockers = λ counting.
                  was.blockers counting ∙ (stayed.stays (n - 1) last_low).no_blockers counting
                  ∙ sym ((stayed.stays i low).no_blockers counting);
              uncounted = was.uncounted;
            };
      }

-- ---- a tick of which it was known that nothing comes before its instruction

-- what tasks are before it, they are at its instruction
pub steady_standing : (k new : Progress) → IsProper k.system → (run_of k).state.over ≡ false → HasGoneSteadily k new
    → (at : AtInstruction) → AreStanding k at
    → at.tasks.items ≡ map (task_at new.system (last_tick new).at) (below (length new.system.tasks))
steady_standing k new proper on gone at stood =
    let S : System = k.system in
    let each : (t : ℕ) → task_at S (run_of k).state t ≡ task_at S (tick_at S k.mode k.arrivals k.ticks).at t =
    λ t. sym (task_between S proper k.mode k.arrivals k.ticks t) ∙ sym (ap (λ o. task_at_in S o t) gone.at)
    ∙ task_executing S proper k.mode k.arrivals k.ticks on t in
    one_on k new (λ T mode arrivals n. at.tasks.items ≡ map (task_at T (tick_at T mode arrivals n).at) (below (length T.tasks)))
    gone.next (stood ∙ ap (λ (f : ℕ → TaskAt). map f (below (length S.tasks))) (fun_ext each))

-- and as many jobs as each had
pub steady_jobs : (k new : Progress) → HasGoneSteadily k new → MakesNone new.system (last_tick new)
steady_jobs k new gone =
    let s : State = (run_of k).state in
    let e : State = (step_at k.system k.mode k.arrivals k.ticks).executing in
    let begun = gone.not_first in
    let later : (k.ticks == 0) ≡ false = grind (arith, begun) in
    one_on k new (λ S mode arrivals n. MakesNone S (tick_at S mode arrivals n)) gone.next
    (λ t.
    ap (λ b. jobs_before b s t) later ∙ sym (counted_jobs (jobs_of t s.jobs))
    ∙ sym (ap (λ (x : Kept). (x.slots t).count) gone.at) ∙ counted_jobs (jobs_of t e.jobs))

-- In a quiet tick figures stay as they are, but for jobs that were unfinished and holds that went on.
use Rattle.std.proofs.Common.{ℕ, ◌≡◌, ◌+◌, ◌-◌, Bool, true, false, not, ◌&&◌, List, ◌∷◌, cond, nat_lt, Option, Some, None, get_or, length, refl, sym, ◌∙◌, ap, ap₂, arith, eqb-true, le-ltb}
use Rattle.osek_base.specs.declared.ids.Owner.{Owner}
use Rattle.std.specs.Prelude.{slice_index_or, is_none, is_some, ◌==◌, ◌||◌}
use Rattle.std.proofs.lemmas.Bool.{and_parts, false≢true, not-true}
use Rattle.osek_base.specs.declared.status.TaskState.{TaskState}
use Rattle.osek_base.specs.declared.status.TaskState.TheVariants.{Running, Waiting, Ready, Suspended}
use Rattle.seen_ticks.specs.declared.observation.Observation.{Observation}
use Rattle.seen_ticks.specs.declared.task_seen.TaskSeen.{TaskSeen}
use Rattle.seen_ticks.specs.declared.routine_seen.RoutineSeen.{RoutineSeen}
use Rattle.seen_ticks.specs.declared.alarm_seen.AlarmSeen.{AlarmSeen}
use Rattle.view_figures.specs.declared.task_tick.TaskTick.{TaskTick}
use Rattle.view_figures.specs.declared.task_figures.TaskFigures.{TaskFigures}
use Rattle.view_figures.specs.declared.task_counts.TaskCounts.{TaskCounts}
use Rattle.view_figures.specs.declared.task_times.TaskTimes.{TaskTimes}
use Rattle.view_figures.specs.declared.alarm_figures.AlarmTick.{AlarmTick}
use Rattle.view_figures.specs.declared.alarm_figures.AlarmFigures.{AlarmFigures}
use Rattle.view_figures.specs.declared.resource_figures.HolderTick.{HolderTick}
use Rattle.view_figures.specs.declared.resource_figures.ResourceFigures.{ResourceFigures}
use Rattle.view_figures.specs.declared.routine_figures.RoutineTick.{RoutineTick}
use Rattle.view_figures.specs.declared.routine_figures.RoutineFigures.{RoutineFigures}
use Rattle.view_figures.specs.Counts.{capped}
use Rattle.view_figures.specs.Reaching.{first_tick, worse_of}
use Rattle.view_figures.specs.TaskSums.{task_counts, jobs_on, left_jobs, more_blockers}
use Rattle.view_figures.specs.declared.task_time.TaskTime.TheVariants.{Executed, Waits, HasNoJob}
use Rattle.view_figures.specs.StateSums.{task_times, time_of, begun, leaves, is_executed, is_ready, is_preempted, is_blocked, is_waited, is_running, ready_time}
use Rattle.view_figures.specs.ResponseSums.{Responses, response_figures, entered, standing, some_more, ready_since}
use Rattle.view_figures.specs.RoutineSums.{routine_figures, since, still, latency}
use Rattle.view_figures.specs.ResourceSums.{resource_figures, is_got, hold_on, hold_at}
use Rattle.view_figures.specs.AlarmSums.{alarm_figures}
use Rattle.seen_ticks.specs.Seen.{numbered, task_seen, unseen_task, unseen_routine, unseen_alarm}
use Rattle.view_figures.specs.FigureSums.{executing_tick, lower_executes, task_figures, task_tick, routine_tick, holder_tick, alarm_tick, is_task, is_routine, is_error}
use Rattle.view_figures.specs.Quiet.{is_suspended, has_nothing, gets_nothing, rests, tells, is_untold, is_unasked, is_quiet_routine, is_free, is_quiet_alarm}
use Rattle.view_figures.proofs.StepLemmas.{task_more, times_more, alarm_more, routine_more, resource_more}

-- a count to which nothing comes
pub kept_count : (old n m : ℕ) → old ≡ capped n → m ≡ 0 → capped (old + m) ≡ old
kept_count old n m e none = omega (arith, e, none)

pub first_stays : (tick : ℕ) (first : Option ℕ) → first_tick false tick first ≡ first
first_stays tick None = refl
first_stays tick (Some u) = refl

-- a tick that makes, refuses and ends no job
pub no_jobs : (t : TaskTick) (before : List TaskTick) (old : TaskCounts) → old ≡ task_counts before → gets_nothing t.seen ≡ true
    → old ≡ jobs_on t old
unfolding task_counts
no_jobs t before old e nothing =
    let s = t.seen in
    let gets = and_parts (s.made == 0) ((s.refused == 0) && (not s.ended && not s.waits)) nothing in
    let more = and_parts (s.refused == 0) (not s.ended && not s.waits) gets.1 in
    let last = and_parts (not s.ended) (not s.waits) more.1 in
    let refused = eqb-true s.refused 0 more.0 in
    let a = kept_count old.activations _ s.made (ap (λ (f : TaskCounts). f.activations) e) (eqb-true s.made 0 gets.0) in
    let r = kept_count old.refused _ s.refused (ap (λ (f : TaskCounts). f.refused) e) refused in
    let d = kept_count old.ended _ (cond s.ended 1 0) (ap (λ (f : TaskCounts). f.ended) e)
    (ap (λ b. cond b 1 0) (not-true s.ended last.0)) in
    let f : first_tick (nat_lt 0 s.refused) t.tick old.first_refusal ≡ old.first_refusal =
    rw refused (first_stays t.tick old.first_refusal) in
    cc

suspended : (s : TaskState) → is_suspended s ≡ true → s ≡ Suspended
suspended s h = elim s as (λ s. is_suspended s ≡ true → s ≡ Suspended) [
  | Running ↦ λ h. absurd (false≢true h)
  | Waiting ↦ λ h. absurd (false≢true h)
  | Ready ↦ λ h. absurd (false≢true h)
  | Suspended ↦ λ _. refl
] h

-- what a task's tick is that is quiet
record IsQuiet (t : TaskTick) : Type 0 where
  pub state : t.seen.state ≡ Suspended
  pub jobs : t.seen.jobs ≡ 0
  pub made : t.seen.made ≡ 0
  pub refused : t.seen.refused ≡ 0
  pub ended : t.seen.ended ≡ false
  pub waits : t.seen.waits ≡ false
  pub failed : t.has_failed ≡ false
  pub blockers : t.blockers ≡ None

-- of a task nothing is told
abbrev pub IsSilent : Observation → ℕ → Type 0
IsSilent o k = ((is_task o.executor k && is_error o.answered) ≡ false) × (cond (is_task o.executor k) o.blockers None ≡ None)

none_told : (error : Bool) (blockers : Option ℕ) (own : Bool) → (error || is_some blockers) ≡ false
    → ((own && error) ≡ false) × (cond own blockers None ≡ None)
none_told true blockers own h = absurd (false≢true (sym h))
none_told false (Some n) own h = absurd (false≢true (sym h))
none_told false None true h = (refl, refl)
none_told false None false h = (refl, refl)

pub others : (o : Observation) (k : ℕ) → is_task o.executor k ≡ false → IsSilent o k
others o k none = (ap (λ b. b && is_error o.answered) none, ap (λ b. cond b o.blockers None) none)

not_own : (o : Observation) (k : ℕ) → not (is_task o.executor k) ≡ true → IsSilent o k
not_own o k h = others o k (not-true (is_task o.executor k) h)

pub untold : (o : Observation) (state : TaskState) (k : ℕ) → is_untold o state k ≡ true → IsSilent o k
untold o state k h = elim state as (λ s. is_untold o s k ≡ true → IsSilent o k) [
  | Running ↦ λ h.
      none_told (is_error o.answered) o.blockers (is_task o.executor k)
      (not-true (tells o) (and_parts (is_task o.executor k) (not (tells o)) h).1)
  | Waiting ↦ not_own o k
  | Ready ↦ not_own o k
  | Suspended ↦ not_own o k
] h

quiet_seen : (levels : List ℕ) (o : Observation) (k : ℕ) → rests (get_or o.tasks.items k unseen_task) ≡ true → IsSilent o k
    → IsQuiet (task_tick levels o k)
quiet_seen levels o k h silent =
    let s : TaskSeen = get_or o.tasks.items k unseen_task in
    let all = and_parts (has_nothing s) (gets_nothing s) h in
    let has = and_parts (is_suspended s.state) (s.jobs == 0) all.0 in
    let gets = and_parts (s.made == 0) ((s.refused == 0) && (not s.ended && not s.waits)) all.1 in
    let more = and_parts (s.refused == 0) (not s.ended && not s.waits) gets.1 in
    let last = and_parts (not s.ended) (not s.waits) more.1 in
    record {
      state = suspended s.state has.0;
      jobs = eqb-true s.jobs 0 has.1;
      made = eqb-true s.made 0 gets.0;
      refused = eqb-true s.refused 0 more.0;
      ended = not-true s.ended last.0;
      waits = not-true s.waits last.1;
      failed = silent.0;
      blockers = silent.1;
    }

counts_stay : (t : TaskTick) (before : List TaskTick) (old : TaskCounts) → old ≡ task_counts before → IsQuiet t
    → (record old { unfinished = 0 }) ≡ task_counts (t ∷ before)
unfolding task_counts
counts_stay t before old e q =
    let more = task_more t before old e in
    let a = kept_count old.activations _ t.seen.made (ap (λ (f : TaskCounts). f.activations) e) q.made in
    let r = kept_count old.refused _ t.seen.refused (ap (λ (f : TaskCounts). f.refused) e) q.refused in
    let d = kept_count old.ended _ (cond t.seen.ended 1 0) (ap (λ (f : TaskCounts). f.ended) e) (ap (λ b. cond b 1 0) q.ended) in
    let x = kept_count old.errors _ (cond t.has_failed 1 0) (ap (λ (f : TaskCounts). f.errors) e) (ap (λ b. cond b 1 0) q.failed) in
    let u : left_jobs t ≡ 0 = omega (arith, q.jobs) in
    let b : more_blockers t.blockers old.blockers ≡ old.blockers = ap (λ o. more_blockers o old.blockers) q.blockers in
    let f : first_tick (nat_lt 0 t.seen.refused) t.tick old.first_refusal ≡ old.first_refusal =
    rw (q.refused) (first_stays t.tick old.first_refusal) in
    cc

-- ticks of a task without a job are none of the five kinds that are counted
no_time : (t : TaskTick) (had : Bool) → IsQuiet t → time_of t had ≡ HasNoJob
no_time t had q =
    ap (λ state. elim state [ Running ↦ Executed | Waiting ↦ Waits | Ready ↦ ready_time t.lower_executes had | Suspended ↦ HasNoJob ]) q.state

begun_stays : (t : TaskTick) (had : Bool) → IsQuiet t → begun t had ≡ had
begun_stays t had q =
    let no : leaves t ≡ false = rw (q.ended, q.waits) refl in
    let idle : is_running t ≡ false =
    ap (λ state. elim state [ Running ↦ true | Waiting ↦ false | Ready ↦ false | Suspended ↦ false ]) q.state in
    rw (no, idle) refl

times_stay : (t : TaskTick) (before : List TaskTick) (old : TaskTimes) → old ≡ task_times before → IsQuiet t
    → old ≡ task_times (t ∷ before)
unfolding task_times
times_stay t before old e q =
    let more = times_more t before old e in
    let time = time_of t old.has_begun in
    let none = no_time t old.has_begun q in
    let g = begun_stays t old.has_begun q in
    let x = kept_count old.executed _ (cond (is_executed time) 1 0) (ap (λ (f : TaskTimes). f.executed) e) (ap (λ t. cond (is_executed t) 1 0) none) in
    let r = kept_count old.ready _ (cond (is_ready time) 1 0) (ap (λ (f : TaskTimes). f.ready) e) (ap (λ t. cond (is_ready t) 1 0) none) in
    let p = kept_count old.preempted _ (cond (is_preempted time) 1 0) (ap (λ (f : TaskTimes). f.preempted) e) (ap (λ t. cond (is_preempted t) 1 0) none) in
    let b = kept_count old.blocked _ (cond (is_blocked time) 1 0) (ap (λ (f : TaskTimes). f.blocked) e) (ap (λ t. cond (is_blocked t) 1 0) none) in
    let w = kept_count old.waiting _ (cond (is_waited time) 1 0) (ap (λ (f : TaskTimes). f.waiting) e) (ap (λ t. cond (is_waited t) 1 0) none) in
    cc

none_enter : (t : TaskTick) (jobs : List ℕ) → IsQuiet t → entered t jobs ≡ jobs
none_enter t jobs q =
    let none : standing t - length jobs ≡ 0 = omega (arith, q.jobs) in
    ap (λ n. some_more t.tick n jobs) none

responses_stay : (t : TaskTick) (before : List TaskTick) (old : Responses) → old ≡ response_figures before → IsQuiet t
    → old ≡ response_figures (t ∷ before)
unfolding response_figures
responses_stay t before old e q =
    let no : leaves t ≡ false = rw (q.ended, q.waits) refl in
    let none = none_enter t (ready_since before) q in
    rw (no, none) e

pub quiet_task : (levels : List ℕ) (o : Observation) (k : ℕ) (before : List TaskTick) (old new : TaskFigures)
    → rests (get_or o.tasks.items k unseen_task) ≡ true → IsSilent o k
    → new ≡ (record old { counts = record old.counts { unfinished = 0 } }) → old ≡ task_figures before
    → new ≡ task_figures (task_tick levels o k ∷ before)
unfolding task_figures
quiet_task levels o k before old new quiet silent is e =
    let q = quiet_seen levels o k quiet silent in
    let t = task_tick levels o k in
    let c = counts_stay t before old.counts (ap (λ (f : TaskFigures). f.counts) e) q in
    let s = times_stay t before old.times (ap (λ (f : TaskFigures). f.times) e) q in
    let r = responses_stay t before old.responses (ap (λ (f : TaskFigures). f.responses) e) q in
    cc

pub no_latency : (r : RoutineTick) (flag : Option ℕ) → r.seen.is_started ≡ false → latency r flag ≡ None
no_latency r None h = refl
no_latency r (Some u) h = ap (λ b. cond b (Some (record { ticks = r.tick - u; at = r.tick })) None) h

pub quiet_routine : (o : Observation) (k : ℕ) (before : List RoutineTick) (old : RoutineFigures) → is_quiet_routine o k ≡ true
    → old ≡ routine_figures before → old ≡ routine_figures (routine_tick o k ∷ before)
unfolding routine_figures
quiet_routine o k before old quiet e =
    let s : RoutineSeen = get_or o.routines.items k unseen_routine in
    let r = routine_tick o k in
    let all = and_parts (is_unasked s) (not (is_routine o.executor k)) quiet in
    let idle = not-true (is_routine o.executor k) all.1 in
    let parts = and_parts (not s.is_pending && not s.is_started) ((s.arrived == 0) && (s.lost == 0)) all.0 in
    let flags = and_parts (not s.is_pending) (not s.is_started) parts.0 in
    let counts = and_parts (s.arrived == 0) (s.lost == 0) parts.1 in
    let pending = not-true s.is_pending flags.0 in
    let started = not-true s.is_started flags.1 in
    let arrived = eqb-true s.arrived 0 counts.0 in
    let lost = eqb-true s.lost 0 counts.1 in
    let failed : r.has_failed ≡ false = ap (λ b. b && is_error o.answered) idle in
    let neither : (s.is_pending || s.is_started) ≡ false = ap₂ (λ x y. x || y) pending started in
    let same : since r old.pending_since ≡ old.pending_since =
    ap (λ b. first_tick b r.tick old.pending_since) neither ∙ first_stays r.tick old.pending_since in
    let none : worse_of old.latency (latency r (since r old.pending_since)) ≡ old.latency =
    ap (λ l. worse_of old.latency l) (no_latency r (since r old.pending_since) started) in
    let more = routine_more r before old e in
    let a = kept_count old.arrivals _ s.arrived (ap (λ (f : RoutineFigures). f.arrivals) e) arrived in
    let b = kept_count old.starts _ (cond s.is_started 1 0) (ap (λ (f : RoutineFigures). f.starts) e) (ap (λ b. cond b 1 0) started) in
    let l = kept_count old.losses _ s.lost (ap (λ (f : RoutineFigures). f.losses) e) lost in
    let x = kept_count old.errors _ (cond r.has_failed 1 0) (ap (λ (f : RoutineFigures). f.errors) e) (ap (λ b. cond b 1 0) failed) in
    let w : still r (since r old.pending_since) ≡ old.pending_since =
    ap (λ b. cond b None (since r old.pending_since)) started ∙ same in
    let n : first_tick (nat_lt 0 s.lost) r.tick old.first_loss ≡ old.first_loss = rw lost (first_stays r.tick old.first_loss) in
    cc

pub free_resource : (o : Observation) (k : ℕ) (before : List HolderTick) (old new : ResourceFigures) → is_free o k ≡ true
    → new ≡ (record old { holder = None; held = 0 }) → old ≡ resource_figures before
    → new ≡ resource_figures (holder_tick o k ∷ before)
unfolding resource_figures
free_resource o k before old new free is e = go (holder_tick o k) (none_held (get_or o.holders.items k None) free)
  where
    none_held : (h : Option ℕ) → is_none h ≡ true → h ≡ None
    none_held None _ = refl
    none_held (Some t) h = absurd (false≢true h)

    go : (h : HolderTick) → h.holder ≡ None → new ≡ resource_figures (h ∷ before)
    go h none =
        let more = resource_more h before old e in
        let held = hold_on h.holder old.holder old.held in
        let g = kept_count old.gets _ (cond (is_got h.holder old.holder) 1 0) (ap (λ (f : ResourceFigures). f.gets) e)
        (ap (λ x. cond (is_got x old.holder) 1 0) none) in
        let l : worse_of old.longest (hold_at h held) ≡ old.longest =
        ap (λ x. worse_of old.longest (cond (is_some x) (Some (record { ticks = held; at = h.tick })) None)) none in
        let d : held ≡ 0 = ap (λ x. hold_on x old.holder old.held) none in
        cc

pub quiet_alarm : (o : Observation) (k : ℕ) (before : List AlarmTick) (old : AlarmFigures) → is_quiet_alarm o k ≡ true
    → old ≡ alarm_figures before → old ≡ alarm_figures (alarm_tick o k ∷ before)
unfolding alarm_figures
quiet_alarm o k before old quiet e =
    let s : AlarmSeen = get_or o.alarms.items k unseen_alarm in
    let a = alarm_tick o k in
    let parts = and_parts (not s.has_expired) (not s.is_refused) quiet in
    let expired = not-true s.has_expired parts.0 in
    let refused = not-true s.is_refused parts.1 in
    let more = alarm_more a before old e in
    let x = kept_count old.expiries _ (cond s.has_expired 1 0) (ap (λ (f : AlarmFigures). f.expiries) e) (ap (λ b. cond b 1 0) expired) in
    let r = kept_count old.refused _ (cond s.is_refused 1 0) (ap (λ (f : AlarmFigures). f.refused) e) (ap (λ b. cond b 1 0) refused) in
    let n : first_tick s.is_refused a.tick old.first_refusal ≡ old.first_refusal = rw refused (first_stays a.tick old.first_refusal) in
    cc

own_not_other : {X : Type 0} (own : Bool) → not own ≡ true → own ≡ true → X
own_not_other true other own = absurd (false≢true other)
own_not_other false other own = absurd (false≢true own)

-- one that executes is RUNNING
pub executes_running : (o : Observation) (state : TaskState) (k : ℕ) → is_untold o state k ≡ true → is_task o.executor k ≡ true → state ≡ Running
executes_running o state k untold own = elim state as (λ s. is_untold o s k ≡ true → s ≡ Running) [
  | Running ↦ λ _. refl
  | Waiting ↦ λ h. own_not_other (is_task o.executor k) h own
  | Ready ↦ λ h. own_not_other (is_task o.executor k) h own
  | Suspended ↦ λ h. own_not_other (is_task o.executor k) h own
] untold

and_false : (b : Bool) → (b && false) ≡ false
and_false true = refl
and_false false = refl

not_lower : (levels : List ℕ) (executor : Option Owner) (k : ℕ) → is_task executor k ≡ true → lower_executes levels executor k ≡ false
not_lower levels None k own = refl
not_lower levels (Some (Owner.Task t)) k own =
    let n = slice_index_or levels k 0 in
    ap (λ u. nat_lt u (length levels) && nat_lt (slice_index_or levels u 0) n) (eqb-true t k own)
    ∙ ap (λ b. nat_lt k (length levels) && b) (le-ltb n n (omega arith)) ∙ and_false (nat_lt k (length levels))
not_lower levels (Some (Owner.Routine r)) k own = refl

-- the levels tell nothing of a task that executes
pub own_tick : (levels : List ℕ) (o : Observation) (t k : ℕ) → is_task o.executor k ≡ true → task_tick levels (numbered t o) k ≡ executing_tick o t k
own_tick levels o t k own =
    λ i. record {
      tick = t;
      seen = task_seen o k;
      lower_executes = not_lower levels o.executor k own i;
      has_failed = own i && is_error o.answered;
      blockers = cond (own i) o.blockers None;
    }

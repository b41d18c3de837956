-- With interrupts off and no routine active a job runs; and what a dispatch leaves.
use Rattle.std.proofs.Common.{ℕ, ◌≡◌, ◌<◌, ◌⊎◌, inl, inr, Bool, true, false, cond, not, ◌&&◌, ◌||◌, List, [], ◌∷◌, ◌++◌, map, length, refl, sym, ◌∙◌, ap, subst}
use Rattle.std.specs.Prelude.{Option, Some, None, is_some, ◌==◌, slice_index, bit_or}
use Rattle.std.specs.List.{AllByRecursion, filter, list_any}
use Rattle.std.proofs.lemmas.List.Folds.{list_any-append}
use Rattle.osek_base.specs.declared.instr.Service.{Service}
use Rattle.osek_base.specs.declared.status.Status.{Status}
use Rattle.osek_base.specs.declared.task.Action.{Action}
use Rattle.osek_base.specs.Activation.{activated, released, woken}
use Rattle.osek_base.specs.Alarm.{alarms_advanced, due_alarms, is_due}
use Rattle.osek_base.specs.Choice.{choice}
use Rattle.osek_base.specs.Lists.{below}
use Rattle.osek_base.specs.Priority.{dynamic_priority}
use Rattle.osek_base.specs.Proper.{IsProper}
use Rattle.osek_base.specs.Reschedule.{entered, reschedule, switched, with_dispatch_of}
use Rattle.osek_base.specs.Service.{NobodyCalls, event_set, first_refusal, is_met, refusals, released_by, reply_to, unasked_service, with_events}
use Rattle.osek_base.specs.State.{Active, Job, JobId, State, interrupts_off, jobs_but, jobs_of, may_dispatch, same_id, waits}
use Rattle.osek_base.specs.System.{System, alarm}
use Rattle.osek_base.specs.Tick.{action_call, alarm_acts, alarm_phase, alarms_act, routine_choice, routine_started, start_phase, with_start_of}
use Rattle.law_runs.proofs.Foremost.{same_ids, same_self}
use Rattle.law_runs.proofs.Known.{all_below, met_waits}
use Rattle.law_runs.proofs.Lists.{all_kept, all_weaker, clash, cond_case}
use Rattle.law_runs.proofs.RankedMoves.{made_job}
use Rattle.law_runs.proofs.RankedTick.{IsRunState, action_run}
use Rattle.law_runs.proofs.SingleMoves.{is_best, is_ready}
use Rattle.law_runs.proofs.SingleTick.{alarm_known}
use Rattle.law_costs.specs.Left.{on, switch_of}
use Rattle.law_costs.proofs.Parts.{any_changed, none_foremost}
use Rattle.law_costs.proofs.Switches.{dispatching}
use Rattle.law_costs.proofs.Totals.{found_counts}

-- the running job is there
pub record HasRunning (running : Option JobId) (jobs : List Job) : Type 0 where
  pub job : JobId
  pub runs : running ≡ Some job
  pub stands : list_any (λ k. same_id k.id job) jobs ≡ true

-- with interrupts off and no routine active it is
abbrev pub IsHeld : State → Type 0
IsHeld s = is_some s.active ≡ false → interrupts_off s ≡ true → HasRunning s.running s.jobs

-- ---- jobs that become ready

any_first : (q : Job → Bool) (xs ys : List Job) → list_any q xs ≡ true
    → list_any q (xs ++ ys) ≡ true
any_first q xs ys is = list_any-append q xs ys ∙ ap (λ b. b || list_any q ys) is

any_kept : (q t : Job → Bool) (xs : List Job) → ((x : Job) → q x ≡ true → t x ≡ true)
    → list_any q xs ≡ true → list_any q (filter t xs) ≡ true
any_kept q t [] passes is = is
any_kept q t (x ∷ xs) passes is = go (q x) refl (t x) refl is (any_kept q t xs passes)
  where
    go : (a : Bool) → q x ≡ a → (b : Bool) → t x ≡ b → (a || list_any q xs) ≡ true
        → (list_any q xs ≡ true → list_any q (filter t xs) ≡ true)
        → list_any q (cond b (x ∷ filter t xs) (filter t xs)) ≡ true
    go true here true there is rest = ap (λ d. d || list_any q (filter t xs)) here
    go true here false there is rest = clash (sym (passes x here) ∙ there)
    go false here true there is rest = ap (λ d. d || list_any q (filter t xs)) here ∙ rest is
    go false here false there is rest = rest is

unless_same : (n m : JobId) → (n ≡ m → ⊥) → same_id n m ≡ false
unless_same n m other = go (same_id n m) refl
  where
    go : (b : Bool) → same_id n m ≡ b → b ≡ false
    go true is = absurd (other (same_ids n m is))
    go false is = refl

module _ (S : System) (s : State) where
  activated_stands : (t : ℕ) → HasRunning s.running s.jobs
      → HasRunning s.running (activated S t s).jobs
  unfolding activated
  activated_stands t h = record {
    job = h.job;
    runs = h.runs;
    stands = any_first (λ k. same_id k.id h.job) s.jobs (made_job S t s ∷ []) h.stands;
  }

  released_stands : (t set : ℕ) (j : Job) → (s.running ≡ Some j.id → ⊥)
      → HasRunning s.running s.jobs
      → HasRunning s.running (released j.id (with_events t set s)).jobs
  unfolding released
  released_stands t set j idle h = record {
    job = h.job;
    runs = h.runs;
    stands =
        any_first (λ k. same_id k.id h.job) (jobs_but j.id s.jobs)
        (map woken (filter (λ k. same_id k.id j.id) s.jobs))
        (any_kept (λ k. same_id k.id h.job) (λ k. not (same_id k.id j.id)) s.jobs
        (λ k is.
        ap not (ap (λ n. same_id n j.id) (same_ids k.id h.job is)
        ∙ unless_same h.job j.id (λ same. idle (h.runs ∙ ap Some same))))
        h.stands);
  }

  set_stands : IsRunState S s → (t m : ℕ) → HasRunning s.running s.jobs
      → HasRunning s.running (event_set t m s).jobs
  set_stands good t m h = go (jobs_of t s.jobs) refl
    where
      events : ℕ
      events = bit_or (slice_index s.masks t) m

      go : (ks : List Job) → jobs_of t s.jobs ≡ ks
          → HasRunning s.running (released_by events ks (with_events t events s)).jobs
      go [] are = h
      go (k ∷ ks) are =
          cond_case (λ (e : State). HasRunning s.running e.jobs) (is_met events k.waits_for)
          (released k.id (with_events t events s)) (with_events t events s)
          (λ met.
          released_stands t events k
          (λ runs.
          clash
          (sym (met_waits events k.waits_for met)
          ∙ (subst (AllByRecursion (λ l. s.running ≡ Some l.id → waits l ≡ false)) are
          (all_kept (λ l. s.running ≡ Some l.id → waits l ≡ false) (λ l. l.id.task == t) s.jobs
          good.ordered.ready)).0 runs))
          h)
          (λ met. h)

-- ---- alarms

action_held : (S : System) (act : Action) (s : State) → IsRunState S s → IsHeld s
    → IsHeld (unasked_service S NobodyCalls s (action_call act)).state
unfolding unasked_service
action_held S (Action.ActivateTask t) s good held idle off =
    go (first_refusal (refusals S NobodyCalls s (Service.ActivateTask (Some t))))
  where
    go : (o : Option Status)
        → HasRunning s.running
        (reply_to S NobodyCalls s (Service.ActivateTask (Some t)) o).state.jobs
    go None = activated_stands S s t (held idle off)
    go (Some refusal) = held idle off
action_held S (Action.SetEvent t m) s good held idle off =
    go (first_refusal (refusals S NobodyCalls s (Service.SetEvent (Some t) m)))
  where
    go : (o : Option Status)
        → HasRunning s.running
        (reply_to S NobodyCalls s (Service.SetEvent (Some t) m) o).state.jobs
    go None = set_stands S s good t m (held idle off)
    go (Some refusal) = held idle off

module _ (S : System) (proper : IsProper S) where
  alarms_held : (due : List ℕ) → AllByRecursion (λ a. a < length S.alarms) due → (s : State)
      → IsRunState S s → IsHeld s → IsHeld (alarms_act S due s).state
  alarms_held [] known s good held = held
  alarms_held (a ∷ due) known s good held =
      alarms_held due known.1 (alarm_acts S a s).state
      (action_run S proper s (alarm S a).action (alarm_known S a proper known.0) good)
      (action_held S (alarm S a).action s good held)

  pub alarm_phase_held : (s : State) → IsRunState S s → IsHeld s → IsHeld (alarm_phase S s).state
  unfolding alarm_phase
  alarm_phase_held s good held =
      alarms_held (due_alarms S s)
      (all_kept (λ a. a < length S.alarms) (is_due S s) (below (length S.alarms))
      (all_below (length S.alarms)))
      (record s { alarms = alarms_advanced S s })
      (record { single = good.single; ordered = good.ordered }) held

-- ---- a dispatch

-- no job is ready, and interrupts are on
pub record IsResting (s : State) : Type 0 where
  pub on : switch_of s ≡ on
  pub none : AllByRecursion (λ k. waits k ≡ true) s.jobs

-- what a dispatch leaves, where no routine is active
abbrev pub IsLed : State → Type 0
IsLed s = is_some s.active ≡ false → IsResting s ⊎ HasRunning s.running s.jobs

-- it stays where the tick is counted
pub led_tick : (s : State) (n : ℕ) → IsLed s → IsLed (record s { tick = n })
led_tick s n led idle = go (led idle)
  where
    go : IsResting s ⊎ HasRunning s.running s.jobs
        → IsResting (record s { tick = n }) ⊎ HasRunning s.running s.jobs
    go (inl rests) = inl (record { on = rests.on; none = rests.none })
    go (inr runs) = inr runs

-- a reschedule, by whether jobs may be dispatched
abbrev dispatched_if : System → State → Bool → State
dispatched_if S s b =
    (with_dispatch_of s
    (cond b (switched S (choice S s.jobs) s) (record { events = []; state = s }))).state

unready : (b : Bool) → not b ≡ false → b ≡ true
unready true is = refl
unready false is = clash is

undispatched : (a b : Bool) → (not a && not b) ≡ false → a ≡ false → b ≡ true
undispatched false b may idle = unready b may
undispatched true b may idle = clash idle

module _ (S : System) where
  pub reschedule_led : (s : State) → IsHeld s → IsLed (reschedule S s).state
  unfolding reschedule
  reschedule_led s held idle = go (may_dispatch s) refl
    where
      go : (b : Bool) → may_dispatch s ≡ b
          → IsResting (dispatched_if S s b)
          ⊎ HasRunning (dispatched_if S s b).running (dispatched_if S s b).jobs
      go false may = inr (held idle (undispatched (is_some s.active) (interrupts_off s) may idle))
      go true may = pick (choice S s.jobs) refl
        where
          pick : (o : Option Job) → choice S s.jobs ≡ o
              → IsResting (with_dispatch_of s (switched S o s)).state
              ⊎ HasRunning (with_dispatch_of s (switched S o s)).state.running
              (with_dispatch_of s (switched S o s)).state.jobs
          pick None is =
              inl
              (record {
                on = (dispatching s may).1;
                none =
                    all_weaker (λ k. not (waits k) ≡ false) (λ k. waits k ≡ true) s.jobs
                    (λ k h. unready (waits k) h)
                    (none_foremost (is_ready S) (dynamic_priority S) s.jobs is);
              })
          pick (Some k) is =
              inr
              (record {
                job = k.id;
                runs = refl;
                stands =
                    any_changed (λ l. same_id l.id k.id) k.id (entered S) (λ l. refl) s.jobs
                    ∙ found_counts (λ l. same_id l.id k.id) (is_best S s.jobs) s.jobs k is
                    (same_self k.id);
              })

  pub reschedule_held : (s : State) → IsHeld s → IsHeld (reschedule S s).state
  unfolding reschedule
  reschedule_held s held idle off = go (may_dispatch s) refl
    where
      go : (b : Bool) → may_dispatch s ≡ b
          → HasRunning (dispatched_if S s b).running (dispatched_if S s b).jobs
      go false may = held idle off
      go true may =
          clash
          (sym may ∙ ap (λ b. not (is_some s.active) && not b) off ∙ never (not (is_some s.active)))
        where
          never : (b : Bool) → (b && false) ≡ false
          never true = refl
          never false = refl

  -- ---- the start of a routine

  start_idle : (s : State) → is_some (start_phase S s).active ≡ false → is_some s.active ≡ false
  unfolding start_phase
  start_idle s idle = go s.active refl idle
    where
      go : (o : Option Active) → s.active ≡ o
          → is_some
          (with_start_of s
          (cond (not (is_some o) && not (interrupts_off s)) (routine_started (routine_choice S s) s)
          s)).active ≡ false
          → is_some o ≡ false
      go None is idle = refl
      go (Some a) is idle = clash (sym (ap is_some is) ∙ idle)

  pub start_led : (s : State) → IsLed s → IsLed (start_phase S s)
  unfolding start_phase
  start_led s led idle = go (led (start_idle s idle))
    where
      go : IsResting s ⊎ HasRunning s.running s.jobs
          → IsResting
          (with_start_of s
          (cond (may_dispatch s) (routine_started (routine_choice S s) s) s))
          ⊎ HasRunning s.running s.jobs
      go (inl rests) = inl (record { on = rests.on; none = rests.none })
      go (inr runs) = inr runs

  pub start_held : (s : State) → IsHeld s → IsHeld (start_phase S s)
  unfolding start_phase
  start_held s held idle off = held (start_idle s idle) off

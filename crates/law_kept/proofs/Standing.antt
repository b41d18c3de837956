-- The steps of a tick keep what stands, and are those over what is kept.
use Rattle.std.proofs.Common.{◌≡◌, ℕ, ◌+◌, ◌-◌, inr, Bool, true, false, cond, List, [], ◌∷◌, length, refl, sym, ◌∙◌, ap, subst, arith, length-set}
use Rattle.std.specs.Prelude.{Option, Some, None, slice_set}
use Rattle.std.specs.Option.{option_map}
use Rattle.std.proofs.lemmas.List.{length-replicate, length-map}
use Rattle.osek_base.specs.declared.ids.Owner.{Owner}
use Rattle.osek_base.specs.declared.task.Action.{Action}
use Rattle.osek_base.specs.declared.status.Status.{Status}
use Rattle.osek_base.specs.declared.trace_event.Results.{Results}
use Rattle.osek_base.specs.declared.instr.Service.{Service}
use Rattle.osek_base.specs.Types.{ServiceCall}
use Rattle.osek_base.specs.declared.instr.Control.{Control}
use Rattle.osek_base.specs.System.{System}
use Rattle.osek_base.specs.State.{JobId, State, Active, Expiry, may_dispatch, interrupts_off, same_id}
use Rattle.osek_base.specs.Alarm.{alarms_advanced}
use Rattle.osek_base.specs.Activation.{activated}
use Rattle.osek_base.specs.Choice.{choice}
use Rattle.osek_base.specs.Reschedule.{switched, with_dispatch_of, reschedule}
use Rattle.osek_base.specs.Service.{Caller, NobodyCalls, first_refusal, refusals, reply_to, service, unasked_service, controlled}
use Rattle.osek_base.specs.Tick.{job_moved, moved, executor, start_phase}
use Rattle.osek_base.specs.Trace.{starting_alarms}
use Rattle.law_runs.proofs.Lists.{clash, all_weaker}
use Rattle.law_runs.proofs.Foremost.{same_ids}
use Rattle.law_runs.proofs.Known.{ActivatesKnown, executor_calls}
use Rattle.law_runs.proofs.Single.{IsFitChange, change_single}
use Rattle.law_runs.proofs.SingleService.{runner_begun, unasked_single, service_single}
use Rattle.law_runs.proofs.SingleTick.{start_single}
use Rattle.law_runs.proofs.SingleMoves.{reschedule_single}
use Rattle.law_runs.proofs.Ranked.{AreRanked, HasReady}
use Rattle.law_runs.proofs.RankedMoves.{IsOrdered, moved_ranked, append_ranked, made_job, made_newest, reschedule_ordered}
use Rattle.law_runs.proofs.RankedService.{IsLeft, service_left}
use Rattle.law_runs.proofs.RankedTick.{IsRunState, action_run}
use Rattle.law_runs.proofs.Formed.{IsPlaced, HasActive, HasForm}
use Rattle.law_runs.proofs.FormedService.{change_formed, service_formed}
use Rattle.law_runs.proofs.FormedPhases.{acts_form, advanced_form, reschedule_form, start_form}
use Rattle.law_runs.proofs.FormedTick.{pending_service, active_service}
use Rattle.law_kept.specs.Kept.{kept}
use Rattle.law_kept.specs.KeptService.{ByNobody, caller_in, kept_reply, reply_in, refusals_in, service_in, unasked_in}
use Rattle.law_kept.specs.Standing.{IsStanding, MayServe, StillStands, StartedStands, ActivateStands, SetEventStands, ServiceStands, ControlStands, RescheduleStands, AdvanceStands, FlagStands, StartStands, JobMoveStands, RoutineMoveStands}
use Rattle.law_kept.proofs.Settled.{IsSettled, AreKnown, activates, reschedules}
use Rattle.law_kept.proofs.Tests.{refusals_kept}
use Rattle.law_kept.proofs.Served.{serves, acts, moved_kept}
use Rattle.law_kept.proofs.Ticked.{settled_of, known_of, start_kept, controlled_kept}
use Rattle.law_kept.proofs.Runner.{ready_of}
use Rattle.law_kept.proofs.Serving.{dispatched_of}

module _ (S : System) (s : State) (standing : IsStanding S s) where
  pub settled : IsSettled S s
  settled = settled_of S s standing.single standing.ranked

  pub known : AreKnown S s
  known = known_of S s standing.form

  -- ---- an alarm activates a task

  activate_ranked : (t : ℕ) → AreRanked S s.running (activated S t s).jobs
  unfolding activated
  activate_ranked t =
      append_ranked S s.running s.jobs (made_job S t s ∷ []) standing.ranked (made_newest S t s standing.single, tt)

  acted_ranked : (t : ℕ)
      → AreRanked S (unasked_service S NobodyCalls s (Service.ActivateTask (Some t))).state.running (unasked_service S NobodyCalls s (Service.ActivateTask (Some t))).state.jobs
  unfolding unasked_service
  acted_ranked t = go (first_refusal (refusals S NobodyCalls s (Service.ActivateTask (Some t))))
    where
      go : (o : Option Status)
          → AreRanked S s.running (reply_to S NobodyCalls s (Service.ActivateTask (Some t)) o).state.jobs
      go None = activate_ranked t
      go (Some refusal) = standing.ranked

  acted_kept : (t : ℕ)
      → kept_reply S (unasked_service S NobodyCalls s (Service.ActivateTask (Some t)))
      ≡ unasked_in S ByNobody (kept S s) (Service.ActivateTask (Some t))
  unfolding unasked_service unasked_in activated
  acted_kept t =
      go (first_refusal (refusals S NobodyCalls s (Service.ActivateTask (Some t))))
      ∙ ap (λ rs. reply_in S ByNobody (kept S s) (Service.ActivateTask (Some t)) (first_refusal rs))
      (refusals_kept S s settled known NobodyCalls tt (Service.ActivateTask (Some t)))
    where
      go : (o : Option Status)
          → kept_reply S (reply_to S NobodyCalls s (Service.ActivateTask (Some t)) o)
          ≡ reply_in S ByNobody (kept S s) (Service.ActivateTask (Some t)) o
      go None = λ i. record { status = Status.Ok; results = Results.Nothing; state = activates S s t settled i }
      go (Some refusal) = refl

pub activate_stands : ActivateStands
activate_stands S s t standing inside = (
  record {
    proper = standing.proper;
    single =
        unasked_single S s standing.single NobodyCalls (Service.ActivateTask (Some t)) standing.proper tt inside;
    ranked = acted_ranked S s standing t;
    form = acts_form S standing.proper s (Service.ActivateTask (Some t)) inside standing.form;
  },
  acted_kept S s standing t,
)

-- ---- an alarm sets an event

pub set_event_stands : SetEventStands
set_event_stands S s t m standing inside unwaits =
    let ready : HasReady s.running s.jobs = ready_of S s standing.single unwaits in
    let acted : IsRunState S (unasked_service S NobodyCalls s (Service.SetEvent (Some t) m)).state =
    action_run S standing.proper s (Action.SetEvent t m) tt
    (record { single = standing.single; ordered = record { ranked = standing.ranked; ready = ready } }) in (
      record {
        proper = standing.proper;
        single = acted.single;
        ranked = acted.ordered.ranked;
        form = acts_form S standing.proper s (Service.SetEvent (Some t) m) tt standing.form;
      },
      acts S s (settled S s standing) (known S s standing) ready (Service.SetEvent (Some t) m),
    )

-- ---- a reschedule

undispatched : (S : System) (s : State) → may_dispatch s ≡ false → (reschedule S s).state ≡ s
unfolding reschedule
undispatched S s off =
    ap
    (λ b. (with_dispatch_of s (cond b (switched S (choice S s.jobs) s) (record { events = []; state = s }))).state) off

reschedule_ranked : (S : System) (s : State) → IsStanding S s
    → AreRanked S (reschedule S s).state.running (reschedule S s).state.jobs
reschedule_ranked S s standing = go (may_dispatch s) refl
  where
    go : (b : Bool) → may_dispatch s ≡ b → AreRanked S (reschedule S s).state.running (reschedule S s).state.jobs
    go true may = (reschedule_ordered S s standing.single standing.ranked (inr may)).ordered.ranked
    go false off = subst (λ (e : State). AreRanked S e.running e.jobs) (sym (undispatched S s off)) standing.ranked

pub reschedule_stands : RescheduleStands
reschedule_stands S s standing = (
  record {
    proper = standing.proper;
    single = reschedule_single S s standing.single;
    ranked = reschedule_ranked S s standing;
    form = reschedule_form S standing.proper s standing.form;
  },
  reschedules S s (settled S s standing),
)

-- ---- a service

running_service : (S : System) (s : State) (c : Caller) (call : ServiceCall)
    → (service S c s call).state.running ≡ s.running
unfolding service
running_service S s c call = refl

module _ (S : System) (s : State) (standing : IsStanding S s) (call : ServiceCall) where
  -- interrupts are off: nothing changes
  disabled : interrupts_off s ≡ true
      → IsStanding S (service S (executor s) s call).state × (kept_reply S (service S (executor s) s call) ≡ service_in S (caller_in (kept S s)) (kept S s) call)
  unfolding service service_in
  disabled off = go (interrupts_off s) off
    where
      go : (b : Bool) → b ≡ true
          → IsStanding S (reply_to S (executor s) s call (cond b (Some Status.SysDisabled) (first_refusal (refusals S (executor s) s call)))).state
          × (kept_reply S (reply_to S (executor s) s call (cond b (Some Status.SysDisabled) (first_refusal (refusals S (executor s) s call))))
          ≡ reply_in S (caller_in (kept S s)) (kept S s) call (cond b (Some Status.SysDisabled) (first_refusal (refusals_in S (caller_in (kept S s)) (kept S s) call))))
      go true h = (
        record {
          proper = standing.proper;
          single = standing.single;
          ranked = standing.ranked;
          form = record {
            formed = record { masks = standing.form.formed.masks; alarms = standing.form.formed.alarms; jobs = standing.form.formed.jobs; limited = standing.form.formed.limited };
            pending = standing.form.pending;
            active = standing.form.active;
          };
        },
        refl,
      )
      go false h = clash (sym h)

  service_form : ActivatesKnown S call → HasForm S (service S (executor s) s call).state
  service_form known = record {
    formed = service_formed S standing.proper s (executor s) call (executor_calls s) known standing.form.formed;
    pending = ap length (pending_service S s (executor s) call) ∙ standing.form.pending;
    active = subst (HasActive S) (sym (active_service S s (executor s) call)) standing.form.active;
  }

  enabled : MayServe S (kept S s) → ActivatesKnown S call → interrupts_off s ≡ false
      → IsStanding S (service S (executor s) s call).state × (kept_reply S (service S (executor s) s call) ≡ service_in S (caller_in (kept S s)) (kept S s) call)
  enabled may activates on =
      let ready : HasReady s.running s.jobs = ready_of S s standing.single (may.ready on) in
      let ordered : IsOrdered S s.running s.jobs = record { ranked = standing.ranked; ready = ready } in
      let left : IsLeft S s standing.single ordered (service S (executor s) s call).state =
      service_left S s standing.single ordered (executor s) call
      (λ m. dispatched_of S s standing.single standing.ranked ready (may.chosen m)) (executor_calls s) in (
        record {
          proper = standing.proper;
          single = service_single S s standing.single (executor s) call standing.proper (executor_calls s) activates;
          ranked =
              subst (λ r. AreRanked S r (service S (executor s) s call).state.jobs)
              (sym (running_service S s (executor s) call)) left.ranked;
          form = service_form activates;
        },
        serves S s (settled S s standing) (known S s standing) ready call,
      )

pub service_stands : ServiceStands
service_stands S s call standing may activates = go (interrupts_off s) refl
  where
    go : (b : Bool) → interrupts_off s ≡ b
        → IsStanding S (service S (executor s) s call).state × (kept_reply S (service S (executor s) s call) ≡ service_in S (caller_in (kept S s)) (kept S s) call)
    go true off = disabled S s standing call off
    go false on = enabled S s standing call may activates on

-- ---- boot, and what a tick changes besides jobs

pub still_stands : StillStands
still_stands S proper = (
  record {
    proper = proper;
    single = record { known = length-replicate (length S.tasks) 0; each = tt; pairs = tt; runs = tt };
    ranked = record { still = tt; pairs = tt; behind = tt };
    form = record {
      formed = record {
        masks = length-replicate (length S.tasks) 0;
        alarms = length-replicate (length S.alarms) None;
        jobs = tt;
        limited = λ t. omega arith;
      };
      pending = length-replicate (length S.routines) false;
      active = tt;
    };
  },
  refl,
)

-- a state of the same jobs
module _ (S : System) (s : State) (standing : IsStanding S s) where
  -- alarms of their number
  pub alarms_stand : (tick : ℕ) (alarms : List (Option Expiry)) → length alarms ≡ length S.alarms
      → IsStanding S (record s { tick = tick; alarms = alarms })
  alarms_stand tick alarms same = record {
    proper = standing.proper;
    single = standing.single;
    ranked = standing.ranked;
    form = record {
      formed = record { masks = standing.form.formed.masks; alarms = same; jobs = standing.form.formed.jobs; limited = standing.form.formed.limited };
      pending = standing.form.pending;
      active = standing.form.active;
    };
  }

  -- another active routine, other flags, interrupts on or off
  pub interrupts_stand : (pending : List Bool) (active : Option Active) (disabled : Bool) (all os : ℕ) (over : Bool)
      → length pending ≡ length S.routines → HasActive S active
      → IsStanding S (record s { pending = pending; active = active; disabled = disabled; suspended_all = all; suspended_os = os; over = over })
  interrupts_stand pending active disabled all os over same placed = record {
    proper = standing.proper;
    single = standing.single;
    ranked = standing.ranked;
    form = record {
      formed = record { masks = standing.form.formed.masks; alarms = standing.form.formed.alarms; jobs = standing.form.formed.jobs; limited = standing.form.formed.limited };
      pending = same;
      active = placed;
    };
  }

  controlled_stands : (control : Control ℕ) → IsStanding S (controlled control s)
  controlled_stands Control.DisableAllInterrupts =
      interrupts_stand s.pending s.active true s.suspended_all s.suspended_os s.over standing.form.pending standing.form.active
  controlled_stands Control.EnableAllInterrupts =
      interrupts_stand s.pending s.active false s.suspended_all s.suspended_os s.over standing.form.pending standing.form.active
  controlled_stands Control.SuspendAllInterrupts =
      interrupts_stand s.pending s.active s.disabled
      (s.suspended_all + 1) s.suspended_os s.over standing.form.pending standing.form.active
  controlled_stands Control.ResumeAllInterrupts =
      interrupts_stand s.pending s.active s.disabled
      (s.suspended_all - 1) s.suspended_os s.over standing.form.pending standing.form.active
  controlled_stands Control.SuspendOsInterrupts =
      interrupts_stand s.pending s.active s.disabled s.suspended_all
      (s.suspended_os + 1) s.over standing.form.pending standing.form.active
  controlled_stands Control.ResumeOsInterrupts =
      interrupts_stand s.pending s.active s.disabled s.suspended_all
      (s.suspended_os - 1) s.over standing.form.pending standing.form.active
  controlled_stands (Control.ShutdownOs n) =
      interrupts_stand s.pending s.active s.disabled s.suspended_all s.suspended_os true standing.form.pending standing.form.active
  controlled_stands Control.ReturnFromInterrupt =
      interrupts_stand s.pending None false 0 0 s.over standing.form.pending tt

pub started_stands : StartedStands
started_stands S s mode standing = alarms_stand S s standing s.tick (starting_alarms S mode) (length-map S.alarms _)

pub advance_stands : AdvanceStands
advance_stands S s standing =
    alarms_stand S s standing (s.tick + 1) (alarms_advanced S (record s { tick = s.tick + 1 }))
    (advanced_form S standing.proper (record s { tick = s.tick + 1 }) (alarms_stand S s standing (s.tick + 1) s.alarms standing.form.formed.alarms).form).formed.alarms

pub flag_stands : FlagStands
flag_stands S s i standing =
    interrupts_stand S s standing
    (slice_set s.pending i true) s.active s.disabled s.suspended_all s.suspended_os s.over
    (length-set s.pending i true ∙ standing.form.pending) standing.form.active

pub control_stands : ControlStands
control_stands S s control standing =
    (controlled_stands S s standing control, controlled_kept S standing.proper control s)

-- ---- a routine starts, and who executes goes on

start_ranked : (S : System) (s : State) → IsStanding S s
    → AreRanked S (start_phase S s).running (start_phase S s).jobs
unfolding start_phase
start_ranked S s standing = standing.ranked

pub start_stands : StartStands
start_stands S s standing = (
  record {
    proper = standing.proper;
    single = start_single S standing.proper s standing.single;
    ranked = start_ranked S s standing;
    form = start_form S standing.proper s standing.form;
  },
  start_kept S standing.proper s,
)

pub job_move_stands : JobMoveStands
job_move_stands S s n x standing runs placed =
    let both = change_formed S standing.proper n (job_moved x) s.jobs (λ k. refl)
    (λ k e h. record { task = h.task; context = subst (λ (m : JobId). IsPlaced S (Owner.Task m.task) x) (sym (same_ids k.id n e)) placed }) standing.form.formed.jobs standing.form.formed.limited in (
      record {
        proper = standing.proper;
        single = change_single S n (job_moved x) s.made s.running s.jobs
            (all_weaker (λ k. same_id k.id n ≡ true → k.begun ≡ true) (IsFitChange S s.made n (job_moved x)) s.jobs (λ k begun. record {
              id = refl;
              begun = refl;
              sound =
                  λ e h. record { given = h.given; idle = h.idle; fresh = λ b. clash (sym (begun e) ∙ b); extended = h.extended };
            }) (runner_begun S s standing.single n runs)) standing.single;
        ranked = moved_ranked S n x s.running s.jobs standing.ranked;
        form = record {
          formed = record { masks = standing.form.formed.masks; alarms = standing.form.formed.alarms; jobs = both.0; limited = both.1 };
          pending = standing.form.pending;
          active = standing.form.active;
        };
      },
      moved_kept S s n x standing.single runs,
    )

pub routine_move_stands : RoutineMoveStands
routine_move_stands S s x standing placed =
    interrupts_stand S s standing s.pending
    (option_map (moved x) s.active) s.disabled s.suspended_all s.suspended_os s.over standing.form.pending
    (go s.active refl standing.form.active)
  where
    go : (a : Option Active) → s.active ≡ a → HasActive S a → HasActive S (option_map (moved x) a)
    go None e here = tt
    go (Some a) e here = record { routine = here.routine; context = placed a e }

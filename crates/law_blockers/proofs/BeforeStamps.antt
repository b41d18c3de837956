-- The stamps of all tasks' jobs through phases 1 to 4 of a tick.
use Rattle.std.proofs.Common.{◌≡◌, ℕ, Bool, true, false, cond, List, [], refl, sym, ◌∙◌, ap, subst}
use Rattle.std.specs.Prelude.{Option, Some, None}
use Rattle.std.specs.Option.{option_map}
use Rattle.osek_base.specs.declared.arrivals.Arrival.{Arrival}
use Rattle.osek_base.specs.System.{System}
use Rattle.osek_base.specs.State.{Job, JobId, State, waits, job_of, may_dispatch}
use Rattle.osek_base.specs.Choice.{choice}
use Rattle.osek_base.specs.Blocker.{waits_in, is_waiting_job}
use Rattle.osek_base.specs.Reschedule.{jobs_entered, switched, with_dispatch_of, reschedule}
use Rattle.osek_base.specs.Tick.{alarm_phase, arrival_phase, start_phase, before_execution, tick}
use Rattle.osek_base.specs.Trace.{run, arriving}
use Rattle.osek_base.specs.Proper.{IsProper}
use Rattle.law_runs.proofs.Single.{IsSingle}
use Rattle.law_runs.proofs.Ranked.{AreRanked}
use Rattle.law_runs.proofs.RankedTick.{IsRunState, alarm_phase_ordered, run_ordered}
use Rattle.law_runs.proofs.Formed.{HasForm}
use Rattle.law_runs.proofs.FormedTick.{run_form}
use Rattle.law_kept.specs.Kept.{Kept, kept}
use Rattle.law_kept.specs.Moves.{KeptRecorded}
use Rattle.law_kept.specs.KeptTick.{arrival_phase_in}
use Rattle.law_kept.proofs.Settled.{reschedules}
use Rattle.law_kept.proofs.Ticked.{settled_of}
use Rattle.law_blockers.specs.Steps.{step_at}
use Rattle.law_blockers.specs.Stamps.{Stamps, stamped, stamps_in, stamps_of}
use Rattle.law_blockers.specs.Restamping.{StampLists, preempted, alarm_phase_restamped, reschedule_restamped, before_restamped, AreListed}
use Rattle.law_blockers.proofs.StepLemmas.{run_tick}
use Rattle.law_blockers.proofs.StampLemmas.{Going}
use Rattle.law_blockers.proofs.ReadyLemmas.{found_map}
use Rattle.law_blockers.proofs.PreemptLemmas.{entering, entering_id, entering_waits, entered_are, reschedule_preempted}
use Rattle.law_blockers.proofs.ListLemmas.{preempted_lists, twice_lists, alike_lists}
use Rattle.law_blockers.proofs.OnlyWakes.{OnlyWakes, wakes_one}
use Rattle.law_blockers.proofs.FreshStamps.{AreFresh, stamps_fresh}
use Rattle.law_blockers.proofs.AlarmStamps.{IsReached, alarm_phase_listed, alarm_phase_kept}

-- ---- a reschedule

-- the same jobs wait behind it
pub waits_after : (S : System) (s : State) (n : JobId) → waits_in (reschedule S s).state n ≡ waits_in s n
unfolding reschedule
waits_after S s n = go (may_dispatch s)
  where
    waiting : (g : Job → Job) → ((j : Job) → waits (g j) ≡ waits j) → (o : Option Job) → is_waiting_job (option_map g o)
        ≡ is_waiting_job o
    waiting g same None = refl
    waiting g same (Some j) = same j

    entered_waits : (o : Option Job) → is_waiting_job (job_of n (jobs_entered S o s.jobs))
        ≡ is_waiting_job (job_of n s.jobs)
    entered_waits o =
        ap (λ js. is_waiting_job (job_of n js)) (entered_are S o s.jobs)
        ∙ ap is_waiting_job (found_map n (entering S o) (entering_id S o) s.jobs)
        ∙ waiting (entering S o) (entering_waits S o) (job_of n s.jobs)

    go : (b : Bool)
        → waits_in (with_dispatch_of s
        (cond b (switched S (choice S s.jobs) s) (record { events = []; state = s }))).state n
        ≡ waits_in s n
    go true = entered_waits (choice S s.jobs)
    go false = refl

-- behind changes by which jobs are only made and released
pub reschedule_listed : (S : System) (s m : State) (u : ℕ) (p : Stamps) (xs : StampLists) → IsSingle S m
    → AreRanked S m.running m.jobs
    → OnlyWakes s m → AreListed S xs (stamped s m u p) m
    → AreListed S (reschedule_restamped S u (kept S m) xs) (stamped s (reschedule S m).state u p) (reschedule S m).state
reschedule_listed S s m u p xs single ranked only are =
    subst (λ (o : Kept). AreListed S (preempted u (kept S m) o xs) (stamped s (reschedule S m).state u p)
    (reschedule S m).state)
    (ap (λ (r : KeptRecorded). r.state) (reschedules S m (settled_of S m single ranked)))
    (twice_lists S s m (reschedule S m).state u p (preempted u (kept S m) (kept S (reschedule S m).state) xs)
    (preempted_lists S m (reschedule S m).state u (stamped s m u p) xs are
    (reschedule_preempted S m u (stamped s m u p) single))
    (λ n there. wakes_one s m (reschedule S m).state only (λ k h. sym (waits_after S m k) ∙ h) n))

-- ---- the phases

start_jobs : (S : System) (s : State) → (start_phase S s).jobs ≡ s.jobs
unfolding start_phase
start_jobs S s = refl

start_running : (S : System) (s : State) → (start_phase S s).running ≡ s.running
unfolding start_phase
start_running S s = refl

pub phases_listed : (S : System) (s : State) (u : ℕ) (p : Stamps) (xs : StampLists) (arrived : List ℕ) → IsProper S
    → IsRunState S s
    → HasForm S s → AreFresh p s → AreListed S xs p s
    → AreListed S (before_restamped S u arrived (kept S s) xs) (stamped s (before_execution S arrived s).state u p)
    (before_execution S arrived s).state
phases_listed S s u p xs arrived proper good form fresh are =
    let acted : State = (alarm_phase S s).state in
    let flagged : State = arrival_phase arrived (alarm_phase S s).state in
    let reached : IsReached S proper s u p fresh (alarm_phase_restamped S u (kept S s) xs) (alarm_phase S s).state =
    alarm_phase_listed S proper s u p fresh good form xs are in
    let waked : IsRunState S (alarm_phase S s).state = alarm_phase_ordered S proper s good in
    let only : OnlyWakes s flagged =
    record { stays = reached.only.stays; waits = reached.only.waits; running = reached.only.running } in
    let before : AreListed S (alarm_phase_restamped S u (kept S s) xs) (stamped s flagged u p) flagged =
    alike_lists S s acted flagged u p (alarm_phase_restamped S u (kept S s) xs) reached.listed refl refl in
    let after =
    reschedule_listed S s flagged u p
    (alarm_phase_restamped S u (kept S s) xs) waked.single waked.ordered.ranked only before in
    alike_lists S s (reschedule S flagged).state (before_execution S arrived s).state u p
    (before_restamped S u arrived (kept S s) xs)
    (subst (λ (o : Kept). AreListed S
    (reschedule_restamped S u (arrival_phase_in arrived o) (alarm_phase_restamped S u (kept S s) xs))
    (stamped s (reschedule S flagged).state u p) (reschedule S flagged).state)
    (alarm_phase_kept S proper s u p fresh good form xs are) after)
    (start_jobs S (reschedule S flagged).state) (start_running S (reschedule S flagged).state)

-- ---- in each run

executing_is : (S : System) (arrived : List ℕ) (s : State) → (before_execution S arrived s).state
    ≡ (tick S arrived s).executing
unfolding tick
executing_is S arrived s = refl

pub before_listed : (S : System) (mode : ℕ) (arrivals : List Arrival) (n : ℕ) (xs : StampLists) → IsProper S
    → Going S mode arrivals n
    → AreListed S xs (stamps_of S mode arrivals n) (run S mode arrivals n).state
    → AreListed S (before_restamped S n (arriving arrivals n) (kept S (run S mode arrivals n).state) xs)
    (stamps_in S mode arrivals n (stamps_of S mode arrivals n)) (step_at S mode arrivals n).executing
before_listed S mode arrivals n xs proper going are =
    let s : State = (run S mode arrivals n).state in
    let p : Stamps = stamps_of S mode arrivals n in
    subst
    (λ t. AreListed S (before_restamped S n (arriving arrivals n) (kept S s) xs)
    (stamped s (tick S (arriving arrivals t) s).executing n p) (tick S (arriving arrivals t) s).executing)
    (sym (run_tick S mode arrivals n going))
    (subst (λ e. AreListed S (before_restamped S n (arriving arrivals n) (kept S s) xs) (stamped s e n p) e)
    (executing_is S (arriving arrivals n) s)
    (phases_listed S s n p xs (arriving arrivals n) proper (run_ordered S proper mode arrivals n)
    (run_form S proper mode arrivals n)
    (stamps_fresh S proper mode arrivals n going) are))

-- A reschedule in the system and in its upper core: the state, the lines, and the layers that it keeps.
use Rattle.std.proofs.Common.{◌≡◌, ℕ, ◌<◌, Bool, true, false, cond, not, List, [], ◌∷◌, length, refl, sym, ◌∙◌, ap, subst, arith}
use Rattle.std.specs.Prelude.{Option, Some, None}
use Rattle.std.specs.List.{AllByRecursion}
use Rattle.std.specs.Option.{option_map}
use Rattle.osek_base.specs.System.{System}
use Rattle.osek_base.specs.State.{Job, JobId, State, same_id, with_job, may_dispatch, interrupts_off}
use Rattle.osek_base.specs.Priority.{dynamic_priority}
use Rattle.osek_base.specs.Choice.{choice}
use Rattle.osek_base.specs.Reschedule.{reschedule, entered, jobs_entered, id_of, switched, switch_records}
use Rattle.osek_base.specs.Agree.{upper_core}
use Rattle.osek_base.proofs.ForemostLemmas.{keep, best_in, foremost-best}
use Rattle.partition_check.proofs.UpperState.{up, is_upper_id, is_ready_job, reschedule_up}
use Rattle.partition_check.proofs.Ranks.{clash}
use Rattle.partition_check.proofs.Dispatch.{fits, switch_lines, lines_none}
use Rattle.partition_check.proofs.Shared.{IsCounterpart, IsLow, IsLayered, IsLayeredJob, SameLines}
use Rattle.std.proofs.lemmas.Bool.{and_parts}

-- ---- what a reschedule does, by whether it may

pub may_events : (S : System) (s : State) → may_dispatch s ≡ true
    → (reschedule S s).events ≡ switch_records S s.running (reschedule S s).state.running
unfolding reschedule
may_events S s h = go (may_dispatch s) h
  where
    go : (b : Bool) → b ≡ true
        → (cond b (switched S (choice S s.jobs) s) (record { events = []; state = s })).events
        ≡ switch_records S s.running (cond b (switched S (choice S s.jobs) s) (record { events = []; state = s })).state.running
    go true e = refl
    go false e = absurd (clash (sym e))

pub may_not_events : (S : System) (s : State) → may_dispatch s ≡ false → (reschedule S s).events ≡ []
unfolding reschedule
may_not_events S s h = ap (λ b. (cond b (switched S (choice S s.jobs) s) (record { events = []; state = s })).events) h

pub may_jobs : (S : System) (s : State) → may_dispatch s ≡ true → (reschedule S s).state.jobs ≡ jobs_entered S (choice S s.jobs) s.jobs
unfolding reschedule
may_jobs S s h = ap (λ b. (cond b (switched S (choice S s.jobs) s) (record { events = []; state = s })).state.jobs) h

pub may_running : (S : System) (s : State) → may_dispatch s ≡ true → (reschedule S s).state.running ≡ option_map id_of (choice S s.jobs)
unfolding reschedule
may_running S s h = ap (λ b. (cond b (switched S (choice S s.jobs) s) (record { events = []; state = s })).state.running) h

pub may_not_jobs : (S : System) (s : State) → may_dispatch s ≡ false → (reschedule S s).state.jobs ≡ s.jobs
unfolding reschedule
may_not_jobs S s h = ap (λ b. (cond b (switched S (choice S s.jobs) s) (record { events = []; state = s })).state.jobs) h

pub may_not_running : (S : System) (s : State) → may_dispatch s ≡ false → (reschedule S s).state.running ≡ s.running
unfolding reschedule
may_not_running S s h = ap (λ b. (cond b (switched S (choice S s.jobs) s) (record { events = []; state = s })).state.running) h

-- the rest stays
pub kept_made : (S : System) (s : State) → (reschedule S s).state.made ≡ s.made
unfolding reschedule
kept_made S s = refl

pub kept_shared : (S : System) (s : State) → (reschedule S s).state.shared ≡ s.shared
unfolding reschedule
kept_shared S s = refl

pub kept_masks : (S : System) (s : State) → (reschedule S s).state.masks ≡ s.masks
unfolding reschedule
kept_masks S s = refl

pub kept_alarms : (S : System) (s : State) → (reschedule S s).state.alarms ≡ s.alarms
unfolding reschedule
kept_alarms S s = refl

pub kept_active : (S : System) (s : State) → (reschedule S s).state.active ≡ s.active
unfolding reschedule
kept_active S s = refl

pub kept_off : (S : System) (s : State) → interrupts_off (reschedule S s).state ≡ interrupts_off s
unfolding reschedule
kept_off S s = refl

-- ---- the layers

with_job_layered : (S : System) (p : ℕ) (n : JobId) (jobs : List Job) → AllByRecursion (IsLayeredJob S p) jobs
    → AllByRecursion (IsLayeredJob S p) (with_job n (entered S) jobs)
with_job_layered S p n [] all = tt
with_job_layered S p n (j ∷ jobs) all = (go (same_id j.id n), with_job_layered S p n jobs all.1)
  where
    go : (b : Bool) → IsLayeredJob S p (cond b (entered S j) j)
    go true = record { task = all.0.task; held = all.0.held }
    go false = all.0

entered_layered : (S : System) (p : ℕ) (o : Option Job) (jobs : List Job) → AllByRecursion (IsLayeredJob S p) jobs
    → AllByRecursion (IsLayeredJob S p) (jobs_entered S o jobs)
entered_layered S p None jobs all = all
entered_layered S p (Some j) jobs all = with_job_layered S p j.id jobs all

chosen_known : (S : System) (p : ℕ) (jobs : List Job) → AllByRecursion (IsLayeredJob S p) jobs → (o : Option Job) → choice S jobs ≡ o
    → (id : JobId) → option_map id_of o ≡ Some id → id.task < length S.tasks
chosen_known S p jobs all None e id h = absurd (grind arith)
chosen_known S p jobs all (Some j) e id h =
    let layered : IsLayeredJob S p j =
    best_in is_ready_job (dynamic_priority S) (IsLayeredJob S p) jobs all j (sym (foremost-best is_ready_job (dynamic_priority S) jobs) ∙ e) in
    subst (λ (n : JobId). n.task < length S.tasks) (same_value j.id id h) layered.task
  where
    same_value : (a b : JobId) → Some a ≡ Some b → a ≡ b
    same_value a b g = grind arith

quiet_when : (s : State) → may_dispatch s ≡ true → interrupts_off s ≡ false
quiet_when s h = go (interrupts_off s) (and_parts _ _ h).1
  where
    go : (b : Bool) → not b ≡ true → b ≡ false
    go true e = sym e
    go false e = refl

module _ (S : System) (p : ℕ) (both : IsCounterpart S p) (below : IsLow S p) (s : State) (layered : IsLayered S p s) where
  jobs_layered : (b : Bool) → may_dispatch s ≡ b → AllByRecursion (IsLayeredJob S p) (reschedule S s).state.jobs
  jobs_layered true h =
      subst (λ jobs. AllByRecursion (IsLayeredJob S p) jobs) (sym (may_jobs S s h)) (entered_layered S p (choice S s.jobs) s.jobs layered.jobs)
  jobs_layered false h = subst (λ jobs. AllByRecursion (IsLayeredJob S p) jobs) (sym (may_not_jobs S s h)) layered.jobs

  running_known : (b : Bool) → may_dispatch s ≡ b → (id : JobId) → (reschedule S s).state.running ≡ Some id → id.task < length S.tasks
  running_known true h id e = chosen_known S p s.jobs layered.jobs (choice S s.jobs) refl id (sym (may_running S s h) ∙ e)
  running_known false h id e = layered.running id (sym (may_not_running S s h) ∙ e)

  still_quiet : (b : Bool) → may_dispatch s ≡ b → (id : JobId) → (reschedule S s).state.running ≡ Some id → is_upper_id S p id ≡ false
      → (reschedule S s).state.active ≡ None → interrupts_off (reschedule S s).state ≡ false
  still_quiet true h id e low idle = kept_off S s ∙ quiet_when s h
  still_quiet false h id e low idle =
      kept_off S s ∙ layered.quiet id (sym (may_not_running S s h) ∙ e) low (sym (kept_active S s) ∙ idle)

  -- a reschedule keeps the layers
  pub reschedule_layered : IsLayered S p (reschedule S s).state
  reschedule_layered = record {
    made = ap length (kept_made S s) ∙ layered.made;
    masks = ap length (kept_masks S s) ∙ layered.masks;
    alarms = ap length (kept_alarms S s) ∙ layered.alarms;
    shared = ap length (kept_shared S s) ∙ layered.shared;
    jobs = jobs_layered (may_dispatch s) refl;
    running = running_known (may_dispatch s) refl;
    quiet = still_quiet (may_dispatch s) refl;
  }

  -- states agree
  pub dispatch_up : up S p (reschedule S s).state ≡ (reschedule (upper_core S p) (up S p s)).state
  dispatch_up = reschedule_up S (upper_core S p) p s (fits S p both below s.jobs layered.jobs)

  dispatch_by : (b : Bool) → may_dispatch s ≡ b → SameLines S p (reschedule S s).events (reschedule (upper_core S p) (up S p s)).events
  dispatch_by true h =
      let running : keep (is_upper_id S p) (reschedule S s).state.running ≡ (reschedule (upper_core S p) (up S p s)).state.running =
      ap (λ (t : State). t.running) dispatch_up in
      subst (λ mine. SameLines S p mine (reschedule (upper_core S p) (up S p s)).events) (sym (may_events S s h))
      (subst (λ theirs. SameLines S p (switch_records S s.running (reschedule S s).state.running) theirs)
      (ap (switch_records (upper_core S p) (keep (is_upper_id S p) s.running)) running ∙ sym (may_events (upper_core S p) (up S p s) h))
      (switch_lines S p both s.running (reschedule S s).state.running layered.running (running_known (may_dispatch s) refl)))
  dispatch_by false h =
      subst (λ mine. SameLines S p mine (reschedule (upper_core S p) (up S p s)).events) (sym (may_not_events S s h))
      (subst (λ theirs. SameLines S p [] theirs) (sym (may_not_events (upper_core S p) (up S p s) h)) (lines_none S p))

  -- and lines
  pub dispatch_lines : SameLines S p (reschedule S s).events (reschedule (upper_core S p) (up S p s)).events
  dispatch_lines = dispatch_by (may_dispatch s) refl

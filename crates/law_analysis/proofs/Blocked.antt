-- A task's oldest job has been blocked in no more ticks than it is old.
use Rattle.std.proofs.Common.{◌≡◌, ℕ, zero, suc, ◌+◌, ◌-◌, ◌<◌, ◌≤◌, Bool, true, false, cond, min, ◌&&◌, ◌||◌, List, [], ◌∷◌, replicate, length, refl, sym, ◌∙◌, ap, subst, arith}
use Rattle.std.specs.Prelude.{Option, Some, None, ◌==◌}
use Rattle.std.specs.List.{filter, list_any}
use Rattle.std.proofs.lemmas.Bool.{ne_eqb}
use Rattle.osek_base.specs.declared.arrivals.Arrival.{Arrival}
use Rattle.osek_base.specs.declared.ids.Owner.{Owner}
use Rattle.osek_base.specs.declared.limits.TheConstants.{MAX_TASKS}
use Rattle.osek_base.specs.declared.status.TaskState.{TaskState}
use Rattle.osek_base.specs.declared.status.TaskState.TheVariants.{Running, Waiting, Ready, Suspended}
use Rattle.osek_base.specs.Lists.{is_empty}
use Rattle.osek_base.specs.Proper.{IsProper}
use Rattle.osek_base.specs.Service.{invalid_task, running_task, task_state}
use Rattle.osek_base.specs.State.{Job, JobId, State, jobs_of, same_id, waits}
use Rattle.osek_base.specs.System.{System}
use Rattle.osek_base.specs.Trace.{arriving, run}
use Rattle.law_runs.proofs.Foremost.{same_ids}
use Rattle.law_runs.proofs.Lists.{clash}
use Rattle.law_runs.proofs.RankedTick.{run_ordered}
use Rattle.law_runs.proofs.RunSteps.{going_before}
use Rattle.law_blockers.specs.Steps.{step_at}
use Rattle.law_blockers.proofs.StepLemmas.{executing_is}
use Rattle.seen_ticks.specs.Observed.{is_by, state_seen, tick_at}
use Rattle.view_figures.specs.declared.task_tick.TaskTick.{TaskTick}
use Rattle.view_figures.specs.ResponseSums.{later}
use Rattle.view_figures.specs.StateSums.{leaves}
use Rattle.law_figures.specs.Ages.{ages, ages_in, ages_next, followed, oldest}
use Rattle.law_figures.specs.Blocking.{blocked_in, blocked_next, blocking, is_blocked_in, stands_ready}
use Rattle.law_figures.specs.Labels.{IsAtMost}
use Rattle.law_figures.specs.RunFigures.{label_before}
use Rattle.law_jobs.proofs.There.{RunnerThere, before_there, few_tasks, run_there}
use Rattle.law_bounds.specs.RunTicks.{age_at, blocked_at, run_tick}

-- ---- labels

-- no more than the oldest age, and 0 where there is none
abbrev IsUnder : ℕ → List ℕ → Type 0
IsUnder b [] = b ≡ 0
IsUnder b (a ∷ old) = b ≤ a

-- a task that is blocked has a job that is followed
abbrev Follows : TaskTick → Type 0
Follows t = is_blocked_in t ≡ true → 1 ≤ followed t

in_under : (t : TaskTick) (b : ℕ) (old : List ℕ) → Follows t → IsUnder b old
    → IsUnder (blocked_in t b) (ages_in t old)
in_under t b (a ∷ old) follows low = go (is_blocked_in t)
  where
    go : (c : Bool) → b + cond c 1 0 ≤ suc a
    go true = omega (arith, low)
    go false = omega (arith, low)
in_under t b [] follows low = go (is_blocked_in t) follows (followed t - 0) refl
  where
    go : (c : Bool) → (c ≡ true → 1 ≤ followed t) → (m : ℕ) → followed t - 0 ≡ m
        → IsUnder (b + cond c 1 0) (replicate m 1)
    go true some zero is = let one = some refl in absurd (omega (arith, one, is))
    go true some (suc m) is = omega (arith, low)
    go false some zero is = omega (arith, low)
    go false some (suc m) is = omega (arith, low)

next_under : (t : TaskTick) (b : ℕ) (old : List ℕ) → Follows t → IsUnder b old
    → IsUnder (blocked_next t b) (ages_next t old)
next_under t b old follows low =
    go (leaves t) (blocked_in t b) (ages_in t old) (in_under t b old follows low)
  where
    none : (xs : List ℕ) → IsUnder 0 xs
    none [] = refl
    none (a ∷ xs) = omega arith

    go : (c : Bool) (m : ℕ) (xs : List ℕ) → IsUnder m xs
        → IsUnder (cond c 0 m) (cond c (later xs) xs)
    go true m xs under = none (later xs)
    go false m xs under = under

-- ---- who is READY has a job

-- what some element passes is kept by a weaker test
some_kept : {X : Type 0} (p q : X → Bool) (xs : List X) → ((x : X) → q x ≡ true → p x ≡ true)
    → list_any q xs ≡ true → filter p xs ≡ [] → ⊥
some_kept p q [] weaker some none = clash (sym some)
some_kept p q (x ∷ xs) weaker some none =
    go (p x) (q x) (weaker x) some none (some_kept p q xs weaker)
  where
    go : (b c : Bool) → (c ≡ true → b ≡ true) → (c || list_any q xs) ≡ true
        → cond b (x ∷ filter p xs) (filter p xs) ≡ []
        → (list_any q xs ≡ true → filter p xs ≡ [] → ⊥) → ⊥
    go true c h some none rest = absurd (grind (arith, none))
    go false true h some none rest = clash (sym (h refl))
    go false false h some none rest = rest some none

module _ (S : System) (proper : IsProper S) (k : ℕ) (known : k < length S.tasks) where
  not_running : (s : State) → RunnerThere s → jobs_of k s.jobs ≡ [] → (o : Option JobId)
      → s.running ≡ o → (running_task o == k) ≡ false
  not_running s there none None runs =
      let few : length S.tasks ≤ MAX_TASKS = few_tasks S proper in
      ne_eqb invalid_task k (λ e. omega (arith, e, known, few))
  not_running s there none (Some m) runs = go (m.task == k) refl
    where
      go : (b : Bool) → (m.task == k) ≡ b → b ≡ false
      go false is = refl
      go true is =
          absurd
          (some_kept (λ (j : Job). j.id.task == k) (λ j. same_id j.id m) s.jobs
          (λ j same. ap (λ (i : JobId). i.task == k) (same_ids j.id m same) ∙ is)
          (there m runs) none)

  none_ready : (b r : Bool) (jobs : List Job) → r ≡ false → jobs ≡ []
      → stands_ready (state_seen b (cond r Running (cond (list_any waits jobs) Waiting
      (cond (is_empty jobs) Suspended Ready)))) ≡ false
  none_ready true r jobs other none = refl
  none_ready false r jobs other none = rw (other, none) refl

  one_job : (s : State) (b : Bool) → RunnerThere s
      → stands_ready (state_seen b (task_state s k)) ≡ true → 1 ≤ length (jobs_of k s.jobs)
  one_job s b there ready = go (jobs_of k s.jobs) refl
    where
      go : (js : List Job) → jobs_of k s.jobs ≡ js → 1 ≤ length js
      go [] none =
          clash
          (sym ready
          ∙ none_ready b (running_task s.running == k) (jobs_of k s.jobs)
          (not_running s there none s.running refl) none)
      go (j ∷ js) some = omega arith

one_followed : (state : TaskState) (jobs : ℕ) → stands_ready state ≡ true → 1 ≤ jobs
    → 1
    ≤ min
    (jobs
    - cond (elim state [ Running ↦ false | Waiting ↦ true | Ready ↦ false | Suspended ↦ false ]) 1
    0)
    15
one_followed Running jobs ready some = clash (sym ready)
one_followed Waiting jobs ready some = clash (sym ready)
one_followed Ready jobs ready some = omega (arith, some)
one_followed Suspended jobs ready some = clash (sym ready)

-- ---- ticks of a run

both_first : (a b : Bool) → (a && b) ≡ true → a ≡ true
both_first true b h = refl
both_first false b h = h

module _ (S : System) (mode : ℕ) (arrivals : List Arrival) (proper : IsProper S) (k : ℕ)
    (known : k < length S.tasks) where
  abbrev at : ℕ → State
  at n = (step_at S mode arrivals n).executing

  abbrev seen : ℕ → TaskTick
  seen n = run_tick S mode arrivals k n

  at_there : (n : ℕ) → (run S mode arrivals n).state.over ≡ false → RunnerThere (at n)
  at_there n going =
      subst RunnerThere (executing_is S mode arrivals n going)
      (before_there S proper (arriving arrivals n) (run S mode arrivals n).state
      (run_ordered S proper mode arrivals n) (run_there S proper mode arrivals n))

  follows : (n : ℕ) → (run S mode arrivals n).state.over ≡ false → Follows (seen n)
  follows n going blocked =
      let ready : stands_ready (seen n).seen.state ≡ true =
      both_first (stands_ready (seen n).seen.state) (seen n).lower_executes blocked in
      one_followed (seen n).seen.state (length (jobs_of k (at n).jobs)) ready
      (one_job S proper k known (at n)
      (is_by (Owner.Task k) (tick_at S mode arrivals n).executed) (at_there n going) ready)

  all_under : (n : ℕ) → (run S mode arrivals n).state.over ≡ false
      → IsUnder (label_before blocking seen n) (label_before ages seen n)
  all_under zero going = refl
  all_under (suc n) going =
      let before : (run S mode arrivals n).state.over ≡ false =
      going_before S mode arrivals n going in
      next_under (seen n) (label_before blocking seen n) (label_before ages seen n)
      (follows n before) (all_under n before)

  pub blocked_low : (n most : ℕ) → (run S mode arrivals n).state.over ≡ false
      → IsAtMost most (age_at S mode arrivals k n) → blocked_at S mode arrivals k n ≤ most
  blocked_low n most going low =
      go (blocked_at S mode arrivals k n) (ages_in (seen n) (label_before ages seen n))
      (in_under (seen n) (label_before blocking seen n) (label_before ages seen n)
      (follows n going) (all_under n going))
      low
    where
      go : (b : ℕ) (xs : List ℕ) → IsUnder b xs → IsAtMost most (oldest xs) → b ≤ most
      go b [] under low = omega (arith, under)
      go b (a ∷ xs) under low = omega (arith, under, low)

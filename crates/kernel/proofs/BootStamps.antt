-- The stamps of jobs, and the last ticks of levels, with which a run begins.
use Rattle.std.proofs.Common.{◌≡◌, ℕ, ◌+◌, ◌<◌, ◌≤◌, ◌⊎◌, inl, inr, Bool, true, false, cond, List, [], ◌∷◌, length, map, replicate, refl, sym, ◌∙◌, ap, subst, arith}
use Rattle.std.specs.Prelude.{Some, ◌==◌, slice_index_or}
use Rattle.std.specs.List.{filter, AllByRecursion}
use Rattle.std.proofs.lemmas.Bool.{cases_lt}
use Rattle.std.proofs.lemmas.List.{get_or_past, get_or-replicate}
use Rattle.osek_base.specs.declared.limits.TheConstants.{MAX_TASK_PRIORITY}
use Rattle.osek_base.specs.declared.arrivals.Arrival.{Arrival}
use Rattle.osek_base.specs.System.{System}
use Rattle.osek_base.specs.State.{Job, JobId, State, jobs_of, still}
use Rattle.osek_base.specs.Activation.{activated}
use Rattle.osek_base.specs.Blocker.{is_in_state, waits_in}
use Rattle.osek_base.specs.Proper.{IsProper}
use Rattle.osek_base.specs.Trace.{all_activated, boot, run, starting_alarms, starting_tasks}
use Rattle.law_runs.proofs.FormedTick.{run_form}
use Rattle.law_kept.specs.Kept.{Kept, Slot, kept}
use Rattle.law_blockers.specs.Stamps.{listed, stamps_of}
use Rattle.law_blockers.specs.Restamping.{AreListed, StampLists, stamps_at}
use Rattle.kernel.specs.Stamping.{AreBegun}
use Rattle.kernel.specs.Machine.{AreLast}
use Rattle.law_blockers.proofs.AfterStamps.{rescheduled_waits}
use Rattle.law_blockers.proofs.OnlyWakes.{wakes_made}
use Rattle.law_blockers.proofs.ReadyLemmas.{there_of}
use Rattle.law_blockers.proofs.ServiceStamps.{none_of_known}
use Rattle.kernel.proofs.KeepingLemmas.{many_jobs}

running_made : (S : System) (t : ℕ) (s : State) → (activated S t s).running ≡ s.running
unfolding activated
running_made S t s = refl

all_waits : (S : System) (ts : List ℕ) (s : State) (n : JobId) → waits_in (all_activated S ts s) n ≡ true → waits_in s n ≡ true
all_waits S [] s n h = h
all_waits S (t ∷ ts) s n h =
    (wakes_made S t s (activated S t s) refl (running_made S t s)).waits n (all_waits S ts (activated S t s) n h)

never : (b : Bool) → (b ≡ true → false ≡ true) → b ≡ false
never true h = sym (h refl)
never false h = refl

all_filter : (P : Job → Type 0) (test : Job → Bool) (jobs : List Job) → AllByRecursion P jobs → AllByRecursion P (filter test jobs)
all_filter P test [] all = tt
all_filter P test (j ∷ jobs) all = go (test j) (all_filter P test jobs all.1)
  where
    go : (b : Bool) → AllByRecursion P (filter test jobs) → AllByRecursion P (cond b (j ∷ filter test jobs) (filter test jobs))
    go true rest = (all.0, rest)
    go false rest = rest

module _ (S : System) (mode : ℕ) (arrivals : List Arrival) where
  -- no job waits after boot
  none_waits : (n : JobId) → waits_in (boot S mode).state n ≡ false
  unfolding boot
  none_waits n =
      let begun : State = record (still S) { alarms = starting_alarms S mode } in
      never _ (λ h. all_waits S (starting_tasks S mode) begun n
      (sym (rescheduled_waits S (all_activated S (starting_tasks S mode) begun) n) ∙ h))

  first_stamp : (n : JobId) → is_in_state (boot S mode).state n ≡ true → stamps_of S mode arrivals 0 n ≡ Some 0
  first_stamp n there = rw (there, none_waits n) refl

  all_first : (jobs : List Job) → AllByRecursion (λ j. is_in_state (boot S mode).state j.id ≡ true) jobs
      → map (λ j. stamps_of S mode arrivals 0 j.id) jobs ≡ replicate (length jobs) (Some 0)
  all_first [] all = refl
  all_first (j ∷ jobs) all = rw (first_stamp j.id all.0, all_first jobs all.1) refl

  first_listed : (t : ℕ) → listed (stamps_of S mode arrivals 0) t (boot S mode).state.jobs
      ≡ replicate ((kept S (boot S mode).state).slots t).count (Some 0)
  first_listed t =
      all_first (jobs_of t (boot S mode).state.jobs)
      (all_filter (λ j. is_in_state (boot S mode).state j.id ≡ true) (λ j. j.id.task == t) (boot S mode).state.jobs
      (there_of (boot S mode).state.jobs))
      ∙ ap (λ k. replicate k (Some 0)) (many_jobs (jobs_of t (boot S mode).state.jobs))

  zero_state : (run S mode arrivals 0).state ≡ (boot S mode).state
  unfolding run
  zero_state = refl

  -- all jobs are ready from tick 0 on
  pub boot_listed : (k : Kept) (xs : StampLists) → IsProper S → (k.slots ≡ (kept S (run S mode arrivals 0).state).slots)
      → AreBegun (length S.tasks) k xs → AreListed S xs (stamps_of S mode arrivals 0) (run S mode arrivals 0).state
  boot_listed k xs proper same begun = record {
    count = begun.size;
    lists = λ t. at t (cases_lt t (length S.tasks)) ∙ sym (run_first t);
  }
    where
      run_first : (t : ℕ) → listed (stamps_of S mode arrivals 0) t (run S mode arrivals 0).state.jobs
          ≡ replicate ((kept S (run S mode arrivals 0).state).slots t).count (Some 0)
      run_first t =
          subst (λ (s : State). listed (stamps_of S mode arrivals 0) t s.jobs ≡ replicate ((kept S s).slots t).count (Some 0))
          (sym zero_state) (first_listed t)

      at : (t : ℕ) → (t < length S.tasks) ⊎ (length S.tasks ≤ t)
          → stamps_at xs t ≡ replicate ((kept S (run S mode arrivals 0).state).slots t).count (Some 0)
      at t (inl inside) = begun.each t inside ∙ ap (λ (slots : ℕ → Slot). replicate (slots t).count (Some 0)) same
      at t (inr past) =
          get_or_past xs t [] (subst (λ n. n ≤ t) (sym begun.size) past)
          ∙ ap (λ n. replicate n (Some 0))
          (sym (none_of_known S (run S mode arrivals 0).state (run_form S proper mode arrivals 0).formed.jobs t past))

  -- no job has executed
  pub boot_last : (behind : List ℕ) → behind ≡ replicate (MAX_TASK_PRIORITY + 1) 0 → AreLast S mode arrivals 0 behind
  boot_last behind is = record {
    count = ap (λ (v : List ℕ). length v) is;
    each = λ l low.
        ap (λ (v : List ℕ). slice_index_or v l 0) is ∙ get_or-replicate (MAX_TASK_PRIORITY + 1) l 0 0 (omega (arith, low));
  }

-- The ages of a task's label are those of its jobs that stand, tick by tick.
use Rattle.std.proofs.Common.{◌≡◌, ℕ, zero, suc, ◌+◌, ◌-◌, ◌<◌, ◌≤◌, ◌⊎◌, inl, inr, Bool, true, false, cond, not, ◌&&◌, ◌||◌, List, [], ◌∷◌, ◌++◌, map, length, replicate, refl, sym, ◌∙◌, ap, subst, append_assoc, arith}
use Rattle.std.specs.Prelude.{Some, ◌==◌, slice_get}
use Rattle.std.specs.List.{AllByRecursion}
use Rattle.std.proofs.Math.Numerals.{add-one}
use Rattle.std.proofs.lemmas.Bool.{cases_lt}
use Rattle.std.proofs.lemmas.List.{length-append, length-map}
use Rattle.osek_base.specs.declared.arrivals.Arrival.{Arrival}
use Rattle.osek_base.specs.Blocker.{becomes_ready, becomes_ready_after, becomes_ready_in, is_in_state, is_ready_from, runs_in, state_after, waits_in}
use Rattle.osek_base.specs.Proper.{IsProper}
use Rattle.osek_base.specs.State.{JobId, State, still}
use Rattle.osek_base.specs.System.{System}
use Rattle.osek_base.specs.Tick.{Step}
use Rattle.osek_base.specs.Trace.{boot, run}
use Rattle.law_runs.proofs.Lists.{all_append, all_both, all_weaker, clash}
use Rattle.law_runs.proofs.RankedTick.{run_ordered}
use Rattle.law_blockers.specs.Steps.{step_at}
use Rattle.law_blockers.proofs.StampLemmas.{Going, earlier, last_step, state_more, step_count}
use Rattle.law_blockers.proofs.StepLemmas.{steps_more}
use Rattle.view_figures.specs.declared.task_tick.TaskTick.{TaskTick}
use Rattle.view_figures.specs.ResponseSums.{later}
use Rattle.view_figures.specs.StateSums.{leaves}
use Rattle.law_figures.specs.Ages.{ages, ages_in, followed}
use Rattle.law_figures.specs.RunFigures.{label_before, task_ticks}
use Rattle.law_jobs.specs.ReadySince.{AgesAreOfJobs, AreAges, IsAge}
use Rattle.law_jobs.specs.Standing.{behind, standing, stands_in}
use Rattle.law_jobs.proofs.Lists.{Grows, is_among}
use Rattle.law_jobs.proofs.Members.{all_back, all_front, each_of, each_stands, stands_among}
use Rattle.law_jobs.proofs.Moving.{Moves}
use Rattle.law_jobs.proofs.Ticking.{executing_good, followed_is, run_grows, run_moves}

-- ---- becoming ready

-- a job that stands and didn't before became ready
stood : (i w r j v q : Bool) → (j && not v) ≡ true → (i && not w) ≡ false
    → (j && not v && (not i || w || (r && not q))) ≡ true
stood i w r true true q now before = clash (sym now)
stood i w r false v q now before = clash (sym now)
stood false w r true false q now before = refl
stood true true r true false q now before = refl
stood true false r true false q now before = clash before

pub stands_becomes : (old new : State) (n : JobId) → stands_in new n ≡ true
    → stands_in old n ≡ false
    → becomes_ready old new n ≡ true
stands_becomes old new n now before =
    stood (is_in_state old n) (waits_in old n) (runs_in old n) (is_in_state new n) (waits_in new n)
    (runs_in new n) now before

either : (a b : Bool) → b ≡ true → (a || b) ≡ true
either true b h = refl
either false b h = h

first_of : (a b : Bool) → a ≡ true → (a || b) ≡ true
first_of true b h = refl
first_of false b h = clash (sym h)

module _ (S : System) (mode : ℕ) (arrivals : List Arrival) where
  abbrev at : ℕ → State
  at n = (step_at S mode arrivals n).executing

  abbrev here : ℕ → State
  here n = (run S mode arrivals n).state

  abbrev steps : ℕ → List Step
  steps n = (run S mode arrivals n).steps

  zero_state : here 0 ≡ (boot S mode).state
  unfolding run
  zero_state = refl

  -- a step stays where it is, one tick further
  earlier_step : (xs : List Step) (y : Step) (i : ℕ) → i < length xs
      → slice_get (xs ++ y ∷ []) i ≡ slice_get xs i
  earlier_step [] y i less = absurd (omega (arith, less))
  earlier_step (x ∷ xs) y zero less = refl
  earlier_step (x ∷ xs) y (suc i) less = earlier_step xs y i (omega (arith, less))

  step_before : (n : ℕ) → Going S mode arrivals (suc n)
      → slice_get (steps (suc (suc n))) n ≡ Some (step_at S mode arrivals n)
  step_before n going =
      let on : Going S mode arrivals n = earlier S mode arrivals n going in
      let count : length (steps (suc n)) ≡ suc n = step_count S mode arrivals (suc n) going in
      ap (λ m. slice_get (steps m) n) (sym (add-one (suc n)))
      ∙ ap (λ xs. slice_get xs n) (steps_more S mode arrivals (suc n) going)
      ∙ earlier_step (steps (suc n)) (step_at S mode arrivals (suc n)) n (omega (arith, count))
      ∙ last_step S mode arrivals n on

  -- of a job that stands in a tick and didn't before it
  becomes_at : (n : ℕ) → Going S mode arrivals n → (job : JobId) → stands_in (at n) job ≡ true
      → ((i : ℕ) → n ≡ suc i → (stands_in (at i) job && stands_in (here n) job) ≡ false)
      → is_ready_from S (boot S mode).state (steps (suc n)) n job ≡ true
  becomes_at zero going job now before = go (stands_in (boot S mode).state job) refl
    where
      go : (b : Bool) → stands_in (boot S mode).state job ≡ b
          → (becomes_ready (still S) (boot S mode).state job
          || becomes_ready_in (boot S mode).state (slice_get (steps 1) 0) job) ≡ true
      go true up =
          first_of (becomes_ready (still S) (boot S mode).state job) _
          (stands_becomes (still S) (boot S mode).state job up refl)
      go false down =
          either (becomes_ready (still S) (boot S mode).state job) _
          (ap (λ o. becomes_ready_in (boot S mode).state o job) (last_step S mode arrivals 0 going)
          ∙ stands_becomes (boot S mode).state (at 0) job now down)
  becomes_at (suc n) going job now before = go (stands_in (here (suc n)) job) refl
    where
      on : Going S mode arrivals n
      on = earlier S mode arrivals n going

      last : slice_get (steps (suc (suc n))) (suc n) ≡ Some (step_at S mode arrivals (suc n))
      last = last_step S mode arrivals (suc n) going

      there : slice_get (steps (suc (suc n))) n ≡ Some (step_at S mode arrivals n)
      there = step_before n going

      after : here (suc n) ≡ (step_at S mode arrivals n).after
      after = state_more S mode arrivals n on

      down_at : (a b : Bool) → (a && b) ≡ false → b ≡ true → a ≡ false
      down_at true true h up = h
      down_at true false h up = clash (sym up)
      down_at false b h up = refl

      go : (b : Bool) → stands_in (here (suc n)) job ≡ b
          → (becomes_ready_after (slice_get (steps (suc (suc n))) n) job
          || becomes_ready_in (state_after (boot S mode).state (slice_get (steps (suc (suc n))) n))
          (slice_get (steps (suc (suc n))) (suc n)) job) ≡ true
      go true up =
          first_of (becomes_ready_after (slice_get (steps (suc (suc n))) n) job) _
          (ap (λ o. becomes_ready_after o job) there
          ∙ stands_becomes (at n) (step_at S mode arrivals n).after job
          (ap (λ s. stands_in s job) (sym after) ∙ up)
          (down_at (stands_in (at n) job) (stands_in (here (suc n)) job) (before n refl) up))
      go false down =
          either (becomes_ready_after (slice_get (steps (suc (suc n))) n) job) _
          (ap (λ o. becomes_ready_in (state_after (boot S mode).state o)
          (slice_get (steps (suc (suc n))) (suc n)) job) there
          ∙ ap (λ o. becomes_ready_in (step_at S mode arrivals n).after o job) last
          ∙ stands_becomes (step_at S mode arrivals n).after (at (suc n)) job now
          (ap (λ s. stands_in s job) (sym after) ∙ down))

  -- ---- one job

  last_or_before : (i n : ℕ) → i ≤ suc n → (i ≤ n) ⊎ (i ≡ suc n)
  last_or_before i n low = go (cases_lt i (suc n))
    where
      go : (i < suc n) ⊎ (suc n ≤ i) → (i ≤ n) ⊎ (i ≡ suc n)
      go (inl less) = inl (omega (arith, less))
      go (inr more) = inr (omega (arith, low, more))

  new_age : (n : ℕ) → Going S mode arrivals n → (job : JobId) → stands_in (at n) job ≡ true
      → ((i : ℕ) → n ≡ suc i → (stands_in (at i) job && stands_in (here n) job) ≡ false)
      → IsAge S mode arrivals n job 1
  new_age n going job now before = record {
    since = n;
    ready = record {
      past = omega arith;
      stands = λ i from to.
          let same : n ≡ i = omega (arith, from, to) in
          subst (λ m. stands_in (at m) job ≡ true) same now;
      between = λ i from to. absurd (omega (arith, from, to));
      first = before;
      becomes = becomes_at n going job now before;
    };
    both = omega arith;
  }

  older_age : (n : ℕ) (job : JobId) (age : ℕ) → IsAge S mode arrivals n job age
      → stands_in (here (suc n)) job ≡ true → stands_in (at (suc n)) job ≡ true
      → IsAge S mode arrivals (suc n) job (suc age)
  older_age n job age is before now = record {
    since = is.since;
    ready = record {
      past = let past = is.ready.past in omega (arith, past);
      stands = λ i from to. stands i from (last_or_before i n to);
      between = λ i from to. between i from (last_or_before i n to);
      first = is.ready.first;
      becomes = is.ready.becomes;
    };
    both = let sum = is.both in omega (arith, sum);
  }
    where
      stands : (i : ℕ) → is.since ≤ i → (i ≤ n) ⊎ (i ≡ suc n) → stands_in (at i) job ≡ true
      stands i from (inl low) = is.ready.stands i from low
      stands i from (inr same) = subst (λ m. stands_in (at m) job ≡ true) (sym same) now

      between : (i : ℕ) → is.since < i → (i ≤ n) ⊎ (i ≡ suc n) → stands_in (here i) job ≡ true
      between i from (inl low) = is.ready.between i from low
      between i from (inr same) = subst (λ m. stands_in (here m) job ≡ true) (sym same) before

  -- ---- some jobs

  abbrev Aged : ℕ → List JobId → List ℕ → Type 0
  Aged n jobs old = AreAges S mode arrivals n jobs old

  aged_behind : (n : ℕ) (jobs : List JobId) (old : List ℕ) → Aged n jobs old
      → Aged n (behind jobs) (later old)
  aged_behind n [] [] h = tt
  aged_behind n [] (age ∷ old) h = absurd h
  aged_behind n (job ∷ jobs) [] h = absurd h
  aged_behind n (job ∷ jobs) (age ∷ old) h = h.1

  aged_left : (n : ℕ) (b : Bool) (jobs : List JobId) (old : List ℕ) → Aged n jobs old
      → Aged n (cond b (behind jobs) jobs) (cond b (later old) old)
  aged_left n true jobs old h = aged_behind n jobs old h
  aged_left n false jobs old h = h

  aged_length : (n : ℕ) (jobs : List JobId) (old : List ℕ) → Aged n jobs old
      → length old ≡ length jobs
  aged_length n [] [] h = refl
  aged_length n [] (age ∷ old) h = absurd h
  aged_length n (job ∷ jobs) [] h = absurd h
  aged_length n (job ∷ jobs) (age ∷ old) h = ap suc (aged_length n jobs old h.1)

  aged_older : (n : ℕ) (jobs : List JobId) (old : List ℕ) → Aged n jobs old
      → AllByRecursion (λ job. stands_in (here (suc n)) job ≡ true) jobs
      → AllByRecursion (λ job. stands_in (at (suc n)) job ≡ true) jobs
      → Aged (suc n) jobs (map suc old)
  aged_older n [] [] h before now = tt
  aged_older n [] (age ∷ old) h before now = absurd h
  aged_older n (job ∷ jobs) [] h before now = absurd h
  aged_older n (job ∷ jobs) (age ∷ old) h before now = (
    older_age n job age h.0 before.0 now.0,
    aged_older n jobs old h.1 before.1 now.1,
  )

  aged_new : (n : ℕ) → Going S mode arrivals n → (jobs : List JobId)
      → AllByRecursion (λ job. stands_in (at n) job ≡ true) jobs
      → AllByRecursion
      (λ job. (i : ℕ) → n ≡ suc i → (stands_in (at i) job && stands_in (here n) job) ≡ false) jobs
      → Aged n jobs (replicate (length jobs) 1)
  aged_new n going [] now before = tt
  aged_new n going (job ∷ jobs) now before =
      (new_age n going job now.0 before.0, aged_new n going jobs now.1 before.1)

  aged_append : (n : ℕ) (jobs more : List JobId) (old new : List ℕ) → Aged n jobs old
      → Aged n more new
      → Aged n (jobs ++ more) (old ++ new)
  aged_append n [] more [] new h g = g
  aged_append n [] more (age ∷ old) new h g = absurd h
  aged_append n (job ∷ jobs) more [] new h g = absurd h
  aged_append n (job ∷ jobs) more (age ∷ old) new h g =
      (h.0, aged_append n jobs more old new h.1 g)

  -- ---- the jobs of a task

  module _ (k : ℕ) (proper : IsProper S) (known : k < length S.tasks) where
    abbrev shown : ℕ → TaskTick
    shown = task_ticks S mode arrivals k

    abbrev old_at : ℕ → List ℕ
    old_at n = ages_in (shown n) (label_before ages shown n)

    at_stands : (n : ℕ) → Going S mode arrivals n
        → AllByRecursion (λ job. stands_in (at n) job ≡ true) (standing k (at n).jobs)
    at_stands n going =
        each_stands S (at n) (executing_good S mode arrivals n k proper going known).good.single k

    here_stands : (n : ℕ) → AllByRecursion (λ job. stands_in (here n) job ≡ true)
        (standing k (here n).jobs)
    here_stands n = each_stands S (here n) (run_ordered S proper mode arrivals n).single k

    -- ages in a tick, by the jobs that stood before and those that are new
    in_tick : (n : ℕ) → Going S mode arrivals n → (jobs fresh : List JobId) (old : List ℕ)
        → standing k (at n).jobs ≡ jobs ++ fresh → Aged n jobs (map suc old)
        → AllByRecursion (λ job. stands_in (at n) job ≡ true) fresh
        → AllByRecursion
        (λ job. (i : ℕ) → n ≡ suc i → (stands_in (at i) job && stands_in (here n) job) ≡ false)
        fresh
        → Aged n (standing k (at n).jobs) (ages_in (shown n) old)
    in_tick n going jobs fresh old are aged now before =
        let count : followed (shown n) ≡ length (jobs ++ fresh) =
        followed_is S mode arrivals n k proper going known ∙ ap length are in
        let both : length (jobs ++ fresh) ≡ length jobs + length fresh = length-append jobs fresh
        in
        let same : length (map suc old) ≡ length jobs = aged_length n jobs (map suc old) aged in
        let size : length (map suc old) ≡ length old = length-map old suc in
        let more : followed (shown n) - length old ≡ length fresh = omega
        (arith, count, both, same, size) in
        subst (λ ids. Aged n ids (ages_in (shown n) old)) (sym are)
        (subst (λ m. Aged n (jobs ++ fresh) (map suc old ++ replicate m 1)) (sym more)
        (aged_append n jobs fresh (map suc old) (replicate (length fresh) 1) aged
        (aged_new n going fresh now before)))

    first_tick : Going S mode arrivals 0 → Aged 0 (standing k (at 0).jobs) (old_at 0)
    first_tick going =
        in_tick 0 going [] (standing k (at 0).jobs) [] refl tt (at_stands 0 going)
        (none (standing k (at 0).jobs))
      where
        none : (jobs : List JobId)
            → AllByRecursion
            (λ job. (i : ℕ) → 0 ≡ suc i → (stands_in (at i) job && stands_in (here 0) job) ≡
            false) jobs
        none [] = tt
        none (job ∷ jobs) = ((λ i e. absurd (omega (arith, e))), none jobs)

    and_back : (a b : Bool) → b ≡ false → (a && b) ≡ false
    and_back true b h = h
    and_back false b h = refl

    and_front : (a b : Bool) → a ≡ false → (a && b) ≡ false
    and_front a b h = ap (λ c. c && b) h

    -- it stands, and didn't in the tick before and behind it
    abbrev IsNew : ℕ → JobId → Type 0
    IsNew n job =
        (i : ℕ) → suc n ≡ suc i → (stands_in (at i) job && stands_in (here (suc n)) job) ≡ false

    next_tick : (n : ℕ) → Going S mode arrivals (suc n)
        → Aged n (standing k (at n).jobs) (old_at n)
        → Aged (suc n) (standing k (at (suc n)).jobs) (old_at (suc n))
    next_tick n going aged =
        in_tick (suc n) going left (moves.fresh ++ grows.fresh) (label_before ages shown (suc n))
        are
        (aged_older n left (label_before ages shown (suc n))
        (aged_left n (leaves (shown n)) (standing k (at n).jobs) (old_at n) aged)
        (all_front (λ job. stands_in (here (suc n)) job ≡ true) left moves.fresh
        (subst (AllByRecursion (λ job. stands_in (here (suc n)) job ≡ true)) moves.is
        (here_stands (suc n))))
        (all_front (λ job. stands_in (at (suc n)) job ≡ true) left (moves.fresh ++ grows.fresh)
        now))
        (all_back (λ job. stands_in (at (suc n)) job ≡ true) left (moves.fresh ++ grows.fresh) now)
        (all_append (IsNew n) moves.fresh grows.fresh
        (all_weaker (λ job. (is_among (standing k (at n).jobs) job ≡ false) ×
        ((job.task == k) ≡ true)) (IsNew n)
        moves.fresh
        (λ job h i e.
        subst (λ m. (stands_in (at m) job && stands_in (here (suc n)) job) ≡ false) (previous i e)
        (and_front (stands_in (at n) job) (stands_in (here (suc n)) job)
        (stands_among (at n) k job h.1 h.0)))
        (all_both (λ job. is_among (standing k (at n).jobs) job ≡ false)
        (λ job. (job.task == k) ≡ true)
        moves.fresh moves.apart
        (all_back (λ (job : JobId). (job.task == k) ≡ true) left moves.fresh
        (subst (AllByRecursion (λ (job : JobId). (job.task == k) ≡ true)) moves.is
        (each_of k (here (suc n)).jobs)))))
        (all_weaker
        (λ job. (is_among (standing k (here (suc n)).jobs) job ≡ false) ×
        ((job.task == k) ≡ true)) (IsNew n)
        grows.fresh
        (λ job h i e.
        and_back (stands_in (at i) job) (stands_in (here (suc n)) job)
        (stands_among (here (suc n)) k job h.1 h.0))
        (all_both (λ job. is_among (standing k (here (suc n)).jobs) job ≡ false)
        (λ job. (job.task == k) ≡ true) grows.fresh grows.apart
        (all_back (λ (job : JobId). (job.task == k) ≡ true) (standing k (here (suc n)).jobs)
        grows.fresh
        (subst (AllByRecursion (λ (job : JobId). (job.task == k) ≡ true)) grows.is
        (each_of k (at (suc n)).jobs))))))
      where
        on : Going S mode arrivals n
        on = earlier S mode arrivals n going

        moves : Moves k (leaves (shown n)) (at n).jobs (here (suc n)).jobs
        moves = run_moves S mode arrivals n k proper on known

        grows : Grows k (here (suc n)).jobs (at (suc n)).jobs
        grows = run_grows S mode arrivals (suc n) k proper going known

        left : List JobId
        left = cond (leaves (shown n)) (behind (standing k (at n).jobs)) (standing k (at n).jobs)

        are : standing k (at (suc n)).jobs
            ≡ cond (leaves (shown n)) (behind (standing k (at n).jobs)) (standing k (at n).jobs)
            ++ (moves.fresh ++ grows.fresh)
        are =
            grows.is ∙ ap (λ ids. ids ++ grows.fresh) moves.is
            ∙ append_assoc
            (cond (leaves (shown n)) (behind (standing k (at n).jobs)) (standing k (at n).jobs))
            moves.fresh grows.fresh

        now : AllByRecursion (λ job. stands_in (at (suc n)) job ≡ true)
            (cond (leaves (shown n)) (behind (standing k (at n).jobs)) (standing k (at n).jobs)
            ++ (moves.fresh ++ grows.fresh))
        now = subst (AllByRecursion (λ job. stands_in (at (suc n)) job ≡ true)) are
            (at_stands (suc n) going)

        previous : (i : ℕ) → suc n ≡ suc i → n ≡ i
        previous i e = omega (arith, e)

    pub all_ticks : (n : ℕ) → Going S mode arrivals n → Aged n (standing k (at n).jobs) (old_at n)
    all_ticks zero going = first_tick going
    all_ticks (suc n) going = next_tick n going (all_ticks n (earlier S mode arrivals n going))

pub ages_are_of_jobs : AgesAreOfJobs
ages_are_of_jobs S mode arrivals n k proper going known =
    all_ticks S mode arrivals k proper known n going

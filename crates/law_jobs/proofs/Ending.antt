-- No job is ready for longer than the longest time of its task.
use Rattle.std.proofs.Common.{◌≡◌, ℕ, zero, suc, ◌+◌, ◌-◌, ◌<◌, ◌≤◌, ◌^◌, ◌⊎◌, inl, inr, Bool, true, false, cond, ◌&&◌, ◌||◌, List, [], ◌∷◌, ◌++◌, map, length, replicate, refl, sym, ◌∙◌, ap, subst, arith}
use Rattle.std.specs.Prelude.{Some, ◌==◌, slice_index_or}
use Rattle.std.specs.List.{AllByRecursion}
use Rattle.std.proofs.lemmas.Bool.{cases_lt}
use Rattle.osek_base.specs.declared.arrivals.Arrival.{Arrival}
use Rattle.osek_base.specs.Proper.{IsProper}
use Rattle.osek_base.specs.State.{JobId, same_id}
use Rattle.osek_base.specs.System.{System}
use Rattle.osek_base.specs.Trace.{run}
use Rattle.law_runs.proofs.Foremost.{same_ids, self_equal}
use Rattle.law_runs.proofs.Lists.{all_append, all_weaker, clash, none_some, some_inside}
use Rattle.law_blockers.specs.Steps.{step_at}
use Rattle.seen_ticks.specs.declared.observation.Observation.{Observation}
use Rattle.view_figures.specs.declared.task_figures.TaskFigures.{TaskFigures}
use Rattle.view_figures.specs.declared.task_tick.TaskTick.{TaskTick}
use Rattle.view_figures.specs.FigureSums.{last_tick, levels_of, task_figures, task_tick}
use Rattle.view_figures.specs.Reaching.{worse_of}
use Rattle.view_figures.specs.ResponseSums.{Responses, later, oldest_response, response_figures}
use Rattle.view_figures.specs.StateSums.{leaves}
use Rattle.law_figures.specs.Ages.{ages, ages_in, followed, oldest, oldest_age, tick_of}
use Rattle.law_figures.specs.Labels.{IsAtMost, IsWithin, NoneShowsMore}
use Rattle.law_figures.specs.RunFigures.{AreTicksOf, label_before, task_ticks}
use Rattle.law_figures.specs.Times.{response_time}
use Rattle.law_figures.proofs.Running.{numbered, responses_of, task_agrees}
use Rattle.law_figures.proofs.Times.{task_times_are_ages}
use Rattle.law_jobs.specs.Ending.{IsOldestJob, JobsEndWithin, OldestIsJob}
use Rattle.law_jobs.specs.ReadySince.{AreAges, IsAge, IsReadySince}
use Rattle.law_jobs.specs.Standing.{behind, standing, stands_in}
use Rattle.law_jobs.proofs.Aging.{ages_are_of_jobs}
use Rattle.law_jobs.proofs.Lists.{is_among}
use Rattle.law_jobs.proofs.Members.{stands_among}
use Rattle.law_jobs.proofs.Showing.{goes_on, none_before}

-- ---- the oldest job

pub oldest_is_job : OldestIsJob
oldest_is_job S mode arrivals n k age proper going known shows =
    go (standing k (step_at S mode arrivals n).executing.jobs)
    (ages_in (task_ticks S mode arrivals k n) (label_before ages (task_ticks S mode arrivals k) n))
    refl (ages_are_of_jobs S mode arrivals n k proper going known) shows
  where
    go : (jobs : List JobId) (old : List ℕ)
        → standing k (step_at S mode arrivals n).executing.jobs ≡ jobs
        → AreAges S mode arrivals n jobs old → oldest old ≡ Some age
        → IsOldestJob S mode arrivals n k age
    go [] [] are aged h = absurd (none_some age h)
    go [] (a ∷ old) are aged h = absurd aged
    go (job ∷ jobs) [] are aged h = absurd aged
    go (job ∷ jobs) (a ∷ old) are aged h = record {
      job = job;
      first = are ∙ ap (λ ids. job ∷ behind ids) (sym are);
      old = subst (IsAge S mode arrivals n job) (some_inside a age h) aged.0;
    }

-- ---- later jobs are younger

abbrev pub AreFalling : List ℕ → Type 0
AreFalling [] = Unit {0}
AreFalling (a ∷ old) = AllByRecursion (λ b. b ≤ a) old × AreFalling old

ones_low : (a n : ℕ) → 1 ≤ a → AllByRecursion (λ b. b ≤ a) (replicate n 1)
ones_low a zero low = tt
ones_low a (suc n) low = (low, ones_low a n low)

ones_falling : (n : ℕ) → AreFalling (replicate n 1)
ones_falling zero = tt
ones_falling (suc n) = (ones_low 1 n (omega arith), ones_falling n)

older_low : (a : ℕ) (old : List ℕ) → AllByRecursion (λ b. b ≤ a) old
    → AllByRecursion (λ b. b ≤ suc a) (map suc old)
older_low a [] all = tt
older_low a (b ∷ old) all = let low = all.0 in (omega (arith, low), older_low a old all.1)

in_falling : (n : ℕ) (old : List ℕ) → AreFalling old → AreFalling (map suc old ++ replicate n 1)
in_falling n [] h = ones_falling n
in_falling n (a ∷ old) h = (
  all_append (λ b. b ≤ suc a) (map suc old) (replicate n 1) (older_low a old h.0)
      (ones_low (suc a) n (omega arith)),
  in_falling n old h.1,
)

left_falling : (b : Bool) (old : List ℕ) → AreFalling old → AreFalling (cond b (later old) old)
left_falling false old h = h
left_falling true [] h = tt
left_falling true (a ∷ old) h = h.1

all_within : (m : ℕ) (old : List ℕ) → AreFalling old → IsAtMost m (oldest old)
    → AllByRecursion (λ a. a ≤ m) old
all_within m [] h low = tt
all_within m (a ∷ old) h low =
    (low, all_weaker (λ b. b ≤ a) (λ b. b ≤ m) old (λ b less. omega (arith, less, low)) h.0)

module _ (S : System) (mode : ℕ) (arrivals : List Arrival) (k : ℕ) where
  abbrev shown : ℕ → TaskTick
  shown = task_ticks S mode arrivals k

  before_falling : (n : ℕ) → AreFalling (label_before ages shown n)
  before_falling zero = tt
  before_falling (suc n) =
      left_falling (leaves (shown n)) (ages_in (shown n) (label_before ages shown n))
      (in_falling (followed (shown n) - length (label_before ages shown n))
      (label_before ages shown n)
      (before_falling n))

  -- ---- one job of the task

  -- a job is ready since one tick
  one_since : (n : ℕ) (job : JobId) (a b : ℕ) → IsReadySince S mode arrivals n job a
      → IsReadySince S mode arrivals n job b → a < b → ⊥
  one_since n job a zero one two less = omega (arith, less)
  one_since n job a (suc v) one two less =
      let past = two.past in
      let at : stands_in (step_at S mode arrivals v).executing job ≡ true =
      one.stands v (omega (arith, less)) (omega (arith, past)) in
      let before : stands_in (run S mode arrivals (suc v)).state job ≡ true =
      one.between (suc v) less past in
      let both : (stands_in (step_at S mode arrivals v).executing job
      && stands_in (run S mode arrivals (suc v)).state job) ≡ true = rw (at, before) refl in
      clash (sym both ∙ two.first v refl)

  member_within : (n m : ℕ) (job : JobId) (jobs : List JobId) (old : List ℕ)
      → AreAges S mode arrivals n jobs old → AllByRecursion (λ a. a ≤ m) old
      → is_among jobs job ≡ true → (age : ℕ) × IsAge S mode arrivals n job age × (age ≤ m)
  member_within n m job [] old aged low there = clash (sym there)
  member_within n m job (i ∷ jobs) [] aged low there = absurd aged
  member_within n m job (i ∷ jobs) (a ∷ old) aged low there =
      go (same_id i job) refl there (member_within n m job jobs old aged.1 low.1)
    where
      go : (b : Bool) → same_id i job ≡ b → (b || is_among jobs job) ≡ true
          → (is_among jobs job ≡ true → (age : ℕ) × IsAge S mode arrivals n job age × (age ≤ m))
          → (age : ℕ) × IsAge S mode arrivals n job age × (age ≤ m)
      go true same h rest =
          (a, subst (λ x. IsAge S mode arrivals n x a) (same_ids i job same) aged.0, low.0)
      go false other h rest = rest h

  module _ (proper : IsProper S) (known : k < length S.tasks) where
    is_there : (n : ℕ) (job : JobId) → job.task ≡ k
        → stands_in (step_at S mode arrivals n).executing job ≡ true
        → is_among (standing k (step_at S mode arrivals n).executing.jobs) job ≡ true
    is_there n job of now =
        go (is_among (standing k (step_at S mode arrivals n).executing.jobs) job) refl
      where
        go : (b : Bool) → is_among (standing k (step_at S mode arrivals n).executing.jobs) job ≡ b
            → b ≡ true
        go true e = refl
        go false e =
            clash
            (sym now
            ∙ stands_among (step_at S mode arrivals n).executing k job
            (ap (λ t. t == k) of ∙ self_equal k) e)

    pub job_within : (n m since : ℕ) (job : JobId) → (run S mode arrivals n).state.over ≡ false
        → IsAtMost m (oldest_age (shown n) (label_before ages shown n)) → job.task ≡ k
        → IsReadySince S mode arrivals n job since → n < since + m
    job_within n m since job going low of ready =
        let it : (age : ℕ) × IsAge S mode arrivals n job age × (age ≤ m) =
        member_within n m job (standing k (step_at S mode arrivals n).executing.jobs)
        (ages_in (shown n) (label_before ages shown n))
        (ages_are_of_jobs S mode arrivals n k proper going known)
        (all_within m (ages_in (shown n) (label_before ages shown n))
        (in_falling (followed (shown n) - length (label_before ages shown n))
        (label_before ages shown n) (before_falling n)) low)
        (is_there n job of (ready.stands n ready.past (omega arith))) in
        let sum : it.0 + it.1.since ≡ suc n = it.1.both in
        let most : it.0 ≤ m = it.2 in
        let same : it.1.since ≡ since = one it.1.since it.1.ready (cases_lt it.1.since since) in
        omega (arith, sum, most, same)
      where
        one : (s : ℕ) → IsReadySince S mode arrivals n job s → (s < since) ⊎ (since ≤ s)
            → s ≡ since
        one s is (inl less) = absurd (one_since n job s since is ready less)
        one s is (inr more) = go (cases_lt since s)
          where
            go : (since < s) ⊎ (s ≤ since) → s ≡ since
            go (inl less) = absurd (one_since n job since s ready is less)
            go (inr low) = omega (arith, more, low)

-- ---- the figures of a run

module _ (S : System) (mode : ℕ) (arrivals : List Arrival) (proper : IsProper S) (k m : ℕ)
    (known : k < length S.tasks) where
  abbrev tick : Observation → TaskTick
  tick o = task_tick (levels_of S) o k

  seen_shown : (n : ℕ) (seen : List Observation) → AreTicksOf S mode arrivals n seen
      → m < 2 ^ 32 - 1
      → IsWithin m (worse_of (response_figures (map tick seen)).spread.greatest
      (oldest_response (last_tick seen) (response_figures (map tick seen)).ready_since))
      → NoneShowsMore ages oldest_age m (map tick seen)
  seen_shown n [] are small within = tt
  seen_shown n (o ∷ before) are small within =
      (task_times_are_ages (tick o) (map tick before)
      (numbered S mode arrivals tick_of tick (λ o. refl) n (o ∷ before) are)).shown m small within

pub jobs_end_within : JobsEndWithin
jobs_end_within S mode arrivals n f are = record {
  jobs = λ k m known small within i since job low of ready.
      let tick = λ (o : Observation). task_tick (levels_of S) o k in
      let seen : List TaskTick = map tick are.seen in
      let same : (slice_index_or f.tasks k (task_figures [])).responses ≡ response_figures seen =
      ap (λ (g : TaskFigures). g.responses) (are.figures.tasks.each k known) ∙ responses_of seen in
      let shown : IsWithin m (worse_of (response_figures seen).spread.greatest
      (oldest_response (last_tick are.seen) (response_figures seen).ready_since)) =
      subst (λ (r : Responses). IsWithin m
      (worse_of r.spread.greatest (oldest_response (last_tick are.seen) r.ready_since))) same
      (subst
      (λ last. IsWithin m (response_time last (slice_index_or f.tasks k
      (task_figures [])).responses))
      are.figures.last within) in
      job_within S mode arrivals k are.proper known i m since job
      (goes_on S mode arrivals n are.seen are.ticks i low)
      (none_before S mode arrivals ages oldest_age tick (task_ticks S mode arrivals k)
      (λ i o is old. (task_agrees S mode arrivals are.proper i o is k known old).next)
      (λ i o is old. (task_agrees S mode arrivals are.proper i o is k known old).oldest)
      m n are.seen are.ticks
      (seen_shown S mode arrivals are.proper k m known n are.seen are.ticks small shown) i low)
      of ready;
}

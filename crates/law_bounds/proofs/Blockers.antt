-- How many blockers the jobs of a task have in a run: one at most, and none where none of its ticks
-- blocks the task.
use Rattle.std.proofs.Common.{◌≡◌, ℕ, zero, suc, ◌+◌, ◌<◌, ◌≤◌, Bool, true, false, cond, ◌&&◌, ◌||◌, nat_le, List, [], ◌∷◌, ◌++◌, drop, take, map, length, min, refl, sym, ◌∙◌, ap, subst, arith}
use Rattle.std.specs.Prelude.{IfSome, Option, Some, None, slice_index_or}
use Rattle.std.specs.List.{AllByRecursion, list_any}
use Rattle.std.specs.Option.{option_map}
use Rattle.std.proofs.Math.Numerals.{add-one}
use Rattle.std.proofs.lemmas.Bool.{and_parts}
use Rattle.osek_base.specs.declared.arrivals.Arrival.{Arrival}
use Rattle.osek_base.specs.Blocker.{blockers, executing_job, is_ready_from}
use Rattle.osek_base.specs.BlockingText.{behind_last, blockers_at, blockers_since, executor_at, ready_since}
use Rattle.osek_base.specs.Lists.{below}
use Rattle.osek_base.specs.Proper.{IsProper}
use Rattle.osek_base.specs.State.{Job, JobId}
use Rattle.osek_base.specs.System.{System, priority_of}
use Rattle.osek_base.specs.Tick.{Step}
use Rattle.osek_base.specs.Trace.{boot, run}
use Rattle.law_runs.proofs.Blocking.{blocks_once, run_blocks, until}
use Rattle.law_runs.proofs.Counting.{blockers_counted, lower_in, one_if}
use Rattle.law_runs.proofs.Foremost.{equal}
use Rattle.law_runs.proofs.Known.{all_below}
use Rattle.law_runs.proofs.Lists.{all_append, clash, found, none_some, some_inside}
use Rattle.law_runs.proofs.Watched.{HasReadyJob}
use Rattle.law_blockers.specs.Steps.{step_at}
use Rattle.law_blockers.proofs.StampLemmas.{last_step}
use Rattle.law_blockers.proofs.StepLemmas.{steps_more}
use Rattle.seen_ticks.specs.declared.observation.Observation.{Observation}
use Rattle.seen_ticks.specs.Observed.{owner_of, tick_at}
use Rattle.view_figures.specs.declared.task_figures.TaskFigures.{TaskFigures}
use Rattle.view_figures.specs.declared.task_tick.TaskTick.{TaskTick}
use Rattle.view_figures.specs.FigureSums.{RunFigures, is_task, levels_of, task_figures, task_tick}
use Rattle.view_figures.specs.TaskSums.{task_counts}
use Rattle.law_figures.specs.Blocking.{blocking, is_blocked_in}
use Rattle.law_figures.proofs.Counts.{counts_tell}
use Rattle.law_figures.specs.RunFigures.{AreRunFigures, AreTicksOf, label_before}
use Rattle.law_figures.specs.Telling.{TellBlockers}
use Rattle.law_bounds.specs.RunTicks.{blocked_at, run_tick}
use Rattle.law_bounds.proofs.Lower.{executor_told, lower_blocks}

-- ---- parts of a list

module _ {X : Type 0} (P : X → Type 0) where
  all_dropped : (n : ℕ) (xs : List X) → AllByRecursion P xs → AllByRecursion P (drop n xs)
  all_dropped zero xs all = all
  all_dropped (suc n) [] all = tt
  all_dropped (suc n) (x ∷ xs) all = all_dropped n xs all.1

  all_taken : (n : ℕ) (xs : List X) → AllByRecursion P xs → AllByRecursion P (take n xs)
  all_taken zero xs all = tt
  all_taken (suc n) [] all = tt
  all_taken (suc n) (x ∷ xs) all = (all.0, all_taken n xs all.1)

-- ---- the steps of a run in which the task isn't blocked

counted : (n : ℕ) (b : Bool) → b ≡ true → n + cond b 1 0 ≤ 0 → ⊥
counted n true e low = omega (arith, low)
counted n false e low = clash (sym e)

module _ (S : System) (mode : ℕ) (arrivals : List Arrival) (proper : IsProper S) (job : JobId) where
  -- while the job stands ready, none of lower static priority executes
  abbrev IsQuiet : Step → Type 0
  IsQuiet x =
      HasReadyJob job x.executing.jobs → lower_in S (priority_of S job.task) x ≡ false

  step_quiet : (n : ℕ) → (run S mode arrivals n).state.over ≡ false
      → blocked_at S mode arrivals job.task n ≤ 0 → IsQuiet (step_at S mode arrivals n)
  step_quiet n going low waiting =
      go (lower_in S (priority_of S job.task) (step_at S mode arrivals n)) refl
    where
      go : (b : Bool) → lower_in S (priority_of S job.task) (step_at S mode arrivals n) ≡ b
          → b ≡ false
      go false e = refl
      go true e =
          absurd
          (counted (label_before blocking (run_tick S mode arrivals job.task) n)
          (is_blocked_in (run_tick S mode arrivals job.task n))
          (lower_blocks S mode arrivals n proper going job waiting e) low)

  none_yet : (run S mode arrivals 0).steps ≡ []
  unfolding run
  none_yet = refl

  one_later : (n : ℕ) → (run S mode arrivals n).state.over ≡ false
      → (run S mode arrivals (suc n)).steps
      ≡ (run S mode arrivals n).steps ++ step_at S mode arrivals n ∷ []
  one_later n going =
      ap (λ k. (run S mode arrivals k).steps) (sym (add-one n)) ∙ steps_more S mode arrivals n going

  -- up to a tick before which none blocks the task
  steps_quiet : (n : ℕ) → ((v : ℕ) → v < n → (run S mode arrivals v).state.over ≡ false)
      → ((v : ℕ) → v < n → blocked_at S mode arrivals job.task v ≤ 0)
      → AllByRecursion IsQuiet (run S mode arrivals n).steps
  steps_quiet zero going low = subst (AllByRecursion IsQuiet) (sym none_yet) tt
  steps_quiet (suc n) going low =
      let here = going n (omega arith) in
      subst (AllByRecursion IsQuiet) (sym (one_later n here))
      (all_append IsQuiet (run S mode arrivals n).steps (step_at S mode arrivals n ∷ [])
      (steps_quiet n (λ v less. going v (omega (arith, less)))
      (λ v less. low v (omega (arith, less))))
      (step_quiet n here (low n (omega arith)), tt))

  none_lower : (xs : List Step) → AllByRecursion IsQuiet xs
      → AllByRecursion (λ (x : Step). HasReadyJob job x.executing.jobs) xs
      → list_any (lower_in S (priority_of S job.task)) xs ≡ false
  none_lower [] quiet waiting = refl
  none_lower (x ∷ xs) quiet waiting =
      λ i. quiet.0 waiting.0 i || none_lower xs quiet.1 waiting.1 i

  -- where the job becomes ready, it then has no blocker
  no_blocker : (n u : ℕ) → ((v : ℕ) → v < n → (run S mode arrivals v).state.over ≡ false)
      → ((v : ℕ) → v < n → blocked_at S mode arrivals job.task v ≤ 0)
      → is_ready_from S (boot S mode).state (run S mode arrivals n).steps u job ≡ true
      → length (blockers S (run S mode arrivals n).steps u job) ≡ 0
  no_blocker n u going low becomes =
      let steps : List Step = (run S mode arrivals n).steps in
      let held = run_blocks S mode arrivals n u job proper becomes in
      blockers_counted S mode arrivals n u job proper becomes
      ∙ ap one_if
      (none_lower (until S proper job (drop u steps))
      (all_taken IsQuiet _ (drop u steps)
      (all_dropped IsQuiet u steps (steps_quiet n going low))) held.1.1)

-- ---- the number of blockers of a tick

module _ (S : System) (mode : ℕ) (arrivals : List Arrival) (n : ℕ) (proper : IsProper S)
    (going : (v : ℕ) → v < suc n → (run S mode arrivals v).state.over ≡ false) where
  abbrev steps : List Step
  steps = (run S mode arrivals (suc n)).steps

  -- what is told is the number since the job that executes became ready
  record IsNumber (m : ℕ) : Type 0 where
    job : Job
    executes : executing_job (step_at S mode arrivals n) ≡ Some job
    since : ℕ
    becomes : is_ready_from S (boot S mode).state steps since job.id ≡ true
    number : length (blockers S steps since job.id) ≡ m

  is_number : (m : ℕ) → blockers_at S mode arrivals n ≡ Some m → IsNumber m
  is_number m told =
      let step = last_step S mode arrivals n (going n (omega arith)) in
      of (executing_job (step_at S mode arrivals n)) refl
      (ap (λ o. blockers_since S (boot S mode).state steps n (executor_at o)) (sym step) ∙ told)
    where
      of : (o : Option Job) → executing_job (step_at S mode arrivals n) ≡ o
          → blockers_since S (boot S mode).state steps n o ≡ Some m → IsNumber m
      of None e is = absurd (none_some m is)
      of (Some j) e is = go (ready_since S (boot S mode).state steps j.id n) refl is
        where
          go : (r : Option ℕ) → ready_since S (boot S mode).state steps j.id n ≡ r
              → option_map (λ u. length (blockers S steps u j.id)) r ≡ Some m → IsNumber m
          go None h is = absurd (none_some m is)
          go (Some u) h is =
              let it = found (λ k. k < suc n)
              (λ k.
              nat_le (behind_last j.id steps n) k
              && is_ready_from S (boot S mode).state steps k j.id)
              (below (suc n)) u (all_below (suc n)) h in
              record {
                job = j;
                executes = e;
                since = u;
                becomes =
                    (and_parts (nat_le (behind_last j.id steps n) u)
                    (is_ready_from S (boot S mode).state steps u j.id) it.1).1;
                number = some_inside (length (blockers S steps u j.id)) m is;
              }

  of_task : (k : ℕ) (j : Job) → executing_job (step_at S mode arrivals n) ≡ Some j
      → is_task (option_map owner_of (tick_at S mode arrivals n).executed) k ≡ true
      → j.id.task ≡ k
  of_task k j by is =
      let who = executor_told S mode arrivals n proper (going n (omega arith)) j by in
      equal j.id.task k (ap (λ o. is_task o k) (sym who) ∙ is)

  -- the task that executes has one at most, and none where no tick up to this one blocks it
  pub blockers_low : (k p m : ℕ)
      → (p ≡ 0 → (v : ℕ) → v < suc n → blocked_at S mode arrivals k v ≤ p)
      → is_task (option_map owner_of (tick_at S mode arrivals n).executed) k ≡ true
      → blockers_at S mode arrivals n ≡ Some m → m ≤ min 1 p
  blockers_low k zero m low is told =
      let it = is_number m told in
      let same : it.job.id.task ≡ k = of_task k it.job it.executes is in
      let none = no_blocker S mode arrivals proper it.job.id (suc n) it.since going
      (subst (λ t. (v : ℕ) → v < suc n → blocked_at S mode arrivals t v ≤ 0) (sym same) (low refl))
      it.becomes in
      let number = it.number in
      omega (arith, none, number)
  blockers_low k (suc p) m low is told =
      let it = is_number m told in
      let few = blocks_once S mode arrivals (suc n) proper it.since it.job.id it.becomes in
      let number = it.number in
      omega (arith, few, number)

-- ---- the figures of a run

counts_of : (seen : List TaskTick) → (task_figures seen).counts ≡ task_counts seen
unfolding task_figures
counts_of seen = refl

module _ (S : System) (mode : ℕ) (arrivals : List Arrival) (proper : IsProper S) (k p : ℕ) where
  abbrev AreFew : TaskTick → Type 0
  AreFew t = IfSome t.blockers (λ m. m ≤ min 1 p)

  each_few : (n : ℕ) (seen : List Observation) → AreTicksOf S mode arrivals n seen
      → TellBlockers S mode arrivals seen
      → ((v : ℕ) → v < n → (run S mode arrivals v).state.over ≡ false)
      → (p ≡ 0 → (v : ℕ) → v < n → blocked_at S mode arrivals k v ≤ p)
      → AllByRecursion AreFew (map (λ o. task_tick (levels_of S) o k) seen)
  each_few zero [] are told going low = tt
  each_few zero (o ∷ before) are told going low = absurd are
  each_few (suc n) [] are told going low = absurd are
  each_few (suc n) (o ∷ before) are told going low = (
    here (is_task o.executor k) refl o.blockers told.0,
    each_few n before are.1 told.1 (λ v less. going v (omega (arith, less)))
        (λ none v less. low none v (omega (arith, less))),
  )
    where
      here : (b : Bool) → is_task o.executor k ≡ b → (number : Option ℕ)
          → IfSome number (λ m. blockers_at S mode arrivals o.tick ≡ Some m)
          → IfSome (cond b number None) (λ m. m ≤ min 1 p)
      here false e number is = tt
      here true e None is = tt
      here true e (Some m) is =
          blockers_low S mode arrivals n proper going k p m low
          (ap (λ w. is_task w k) (sym are.0.seen.executor) ∙ e)
          (ap (blockers_at S mode arrivals) (sym are.0.number) ∙ is)

-- in the figures of a run no job of a task has a blocker where p is 0 and bounds for how many ticks
-- the task is blocked, and else each has one at most
pub figures_low : (S : System) (mode : ℕ) (arrivals : List Arrival) (n : ℕ) (f : RunFigures)
    (are : AreRunFigures S mode arrivals n f) → TellBlockers S mode arrivals are.seen
    → ((v : ℕ) → v < n → (run S mode arrivals v).state.over ≡ false)
    → (k p : ℕ) → k < length S.tasks
    → (p ≡ 0 → (v : ℕ) → v < n → blocked_at S mode arrivals k v ≤ p)
    → IfSome (slice_index_or f.tasks k (task_figures [])).counts.blockers (λ m. m ≤ min 1 p)
figures_low S mode arrivals n f are told going k p known low =
    let seen : List TaskTick = map (λ o. task_tick (levels_of S) o k) are.seen in
    let same = ap (λ (g : TaskFigures). g.counts) (are.figures.tasks.each k known)
    ∙ counts_of seen in
    subst (λ c. IfSome c.blockers (λ m. m ≤ min 1 p)) (sym same)
    ((counts_tell.0 seen).within (min 1 p)
    (each_few S mode arrivals are.proper k p n are.seen are.ticks told going low))

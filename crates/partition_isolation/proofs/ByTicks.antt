-- Figures of a task but for blockers go by what is seen of it, by whether its service fails, and by
-- whether a lower task executes while it is ready.
use Rattle.std.proofs.Common.{◌≡◌, ℕ, ◌+◌, Bool, ◌&&◌, cond, nat_lt, List, [], ◌∷◌, map, refl, sym, ◌∙◌, ap, ap₂}
use Rattle.std.specs.Prelude.{None}
use Rattle.std.specs.List.{fold}
use Rattle.osek_base.specs.declared.status.TaskState.{TaskState}
use Rattle.view_figures.specs.declared.task_counts.TaskCounts.{TaskCounts}
use Rattle.view_figures.specs.declared.task_tick.TaskTick.{TaskTick}
use Rattle.view_figures.specs.declared.task_time.TaskTime.{TaskTime}
use Rattle.view_figures.specs.declared.task_time.TaskTime.TheVariants.{Executed, HasNoJob, Waits}
use Rattle.view_figures.specs.Counts.{capped}
use Rattle.view_figures.specs.FigureSums.{task_figures}
use Rattle.view_figures.specs.Reaching.{first_tick, put}
use Rattle.view_figures.specs.ResponseSums.{entered, later, oldest_response, ready_since, response_figures, responses, spread}
use Rattle.view_figures.specs.StateSums.{begun, has_begun, is_blocked, is_executed, is_preempted, is_ready, is_waited, leaves, ready_time, task_times, time_of, times}
use Rattle.view_figures.specs.TaskSums.{first_refusal, task_counts, unfinished}
use Rattle.law_figures.specs.Blocking.{stands_ready}
use Rattle.partition_isolation.specs.SameFigures.{but_blockers}

-- what of a tick counts
abbrev pub plain_tick : TaskTick → TaskTick
plain_tick t =
    record {
      tick = t.tick;
      seen = t.seen;
      lower_executes = stands_ready t.seen.state && t.lower_executes;
      has_failed = t.has_failed;
      blockers = None;
    }

-- a fold goes by what its steps use
folds_same : {T A : Type 0} (step : A → T → A) (bare : T → T)
    → ((a : A) (t : T) → step a t ≡ step a (bare t))
    → (a : A) (seen : List T) → fold step a seen ≡ fold step a (map bare seen)
folds_same step bare same a [] = refl
folds_same step bare same a (t ∷ before) =
    folds_same step bare same (step a t) before
    ∙ ap (λ b. fold step b (map bare before)) (same a t)

-- ---- what is counted

refusal_plain : (seen : List TaskTick) → first_refusal seen ≡ first_refusal (map plain_tick seen)
refusal_plain [] = refl
refusal_plain (t ∷ before) =
    ap (first_tick (nat_lt 0 t.seen.refused) t.tick) (refusal_plain before)

unfinished_plain : (seen : List TaskTick) → unfinished seen ≡ unfinished (map plain_tick seen)
unfinished_plain [] = refl
unfinished_plain (t ∷ before) = refl

abbrev silent : TaskCounts → TaskCounts
silent c = record c { blockers = None }

counts_plain : (seen : List TaskTick)
    → silent (task_counts seen) ≡ silent (task_counts (map plain_tick seen))
unfolding task_counts
counts_plain seen =
    let made = folds_same (λ (a : ℕ) (t : TaskTick). a + t.seen.made) plain_tick
    (λ a t. refl) 0 seen in
    let refused = folds_same (λ (a : ℕ) (t : TaskTick). a + t.seen.refused) plain_tick
    (λ a t. refl) 0 seen in
    let ended = folds_same (λ (a : ℕ) (t : TaskTick). a + cond t.seen.ended 1 0) plain_tick
    (λ a t. refl) 0 seen in
    let errors = folds_same (λ (a : ℕ) (t : TaskTick). a + cond t.has_failed 1 0) plain_tick
    (λ a t. refl) 0 seen in
    λ i. record {
      activations = capped (made i);
      refused = capped (refused i);
      ended = capped (ended i);
      unfinished = unfinished_plain seen i;
      errors = capped (errors i);
      blockers = None;
      first_refusal = refusal_plain seen i;
    }

-- ---- what each tick is for it

begun_plain : (seen : List TaskTick) → has_begun seen ≡ has_begun (map plain_tick seen)
begun_plain [] = refl
begun_plain (t ∷ before) = ap (begun t) (begun_plain before)

abbrev time_in : TaskState → Bool → Bool → TaskTime
time_in state lower had =
    elim state [
      | TaskState.Running ↦ Executed
      | TaskState.Waiting ↦ Waits
      | TaskState.Ready ↦ ready_time lower had
      | TaskState.Suspended ↦ HasNoJob
    ]

one_time : (state : TaskState) (lower had : Bool)
    → time_in state lower had ≡ time_in state (stands_ready state && lower) had
one_time TaskState.Running lower had = refl
one_time TaskState.Waiting lower had = refl
one_time TaskState.Ready lower had = refl
one_time TaskState.Suspended lower had = refl

times_plain : (seen : List TaskTick) → times seen ≡ times (map plain_tick seen)
times_plain [] = refl
times_plain (t ∷ before) =
    ap₂ (λ (time : TaskTime) rest. time ∷ rest)
    (one_time t.seen.state t.lower_executes (has_begun before)
    ∙ ap (time_of (plain_tick t)) (begun_plain before))
    (times_plain before)

abbrev counted : (TaskTime → Bool) → List TaskTime → ℕ
counted test all = fold (λ a time. a + cond (test time) 1 0) 0 all

task_times_plain : (seen : List TaskTick) → task_times seen ≡ task_times (map plain_tick seen)
unfolding task_times
task_times_plain seen =
    let same = times_plain seen in
    λ i. record {
      executed = capped (counted is_executed (same i));
      ready = capped (counted is_ready (same i));
      preempted = capped (counted is_preempted (same i));
      blocked = capped (counted is_blocked (same i));
      waiting = capped (counted is_waited (same i));
      has_begun = begun_plain seen i;
    }

-- ---- responses

ready_plain : (seen : List TaskTick) → ready_since seen ≡ ready_since (map plain_tick seen)
ready_plain [] = refl
ready_plain (t ∷ before) =
    ap (λ ready. cond (leaves t) (later (entered t ready)) (entered t ready)) (ready_plain before)

responses_plain : (seen : List TaskTick) → responses seen ≡ responses (map plain_tick seen)
responses_plain [] = refl
responses_plain (t ∷ before) =
    ap₂ (λ ready others. put (cond (leaves t) (oldest_response t.tick (entered t ready)) None)
    others) (ready_plain before) (responses_plain before)

response_plain : (seen : List TaskTick)
    → response_figures seen ≡ response_figures (map plain_tick seen)
unfolding response_figures
response_plain seen = λ i. record {
  ready_since = ready_plain seen i;
  spread = spread (responses_plain seen i);
}

-- ---- all of them

figures_plain : (seen : List TaskTick)
    → but_blockers (task_figures seen) ≡ but_blockers (task_figures (map plain_tick seen))
unfolding task_figures
figures_plain seen =
    let counts = counts_plain seen in
    let spent = task_times_plain seen in
    let responded = response_plain seen in
    λ i. record { counts = counts i; times = spent i; responses = responded i }

pub task_figures_same : (seen others : List TaskTick)
    → map plain_tick seen ≡ map plain_tick others
    → but_blockers (task_figures seen) ≡ but_blockers (task_figures others)
task_figures_same seen others same =
    figures_plain seen ∙ ap (λ ts. but_blockers (task_figures ts)) same ∙ sym (figures_plain others)

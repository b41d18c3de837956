-- Responses of tasks, what is refused to them and the services of theirs that fail don't go by
-- lower tasks that execute, nor by blockers.
use Rattle.std.proofs.Common.{◌≡◌, ℕ, ◌+◌, false, cond, List, [], ◌∷◌, map, refl, sym, ◌∙◌, ap, ap₂}
use Rattle.std.specs.Prelude.{None, count_by, sum_by}
use Rattle.std.specs.List.{fold}
use Rattle.view_figures.specs.declared.task_tick.TaskTick.{TaskTick}
use Rattle.view_figures.specs.Counts.{capped}
use Rattle.view_figures.specs.FigureSums.{task_figures}
use Rattle.view_figures.specs.Reaching.{put}
use Rattle.view_figures.specs.ResponseSums.{entered, later, oldest_response, ready_since, response_figures, responses, spread}
use Rattle.view_figures.specs.StateSums.{leaves}
use Rattle.view_figures.specs.TaskSums.{task_counts}

-- a sum goes by what it adds
sums_same : {T : Type 0} (number : T → ℕ) (bare : T → T) → ((t : T) → number t ≡ number (bare t))
    → (n : ℕ) (seen : List T)
    → fold (λ a t. a + number t) n seen ≡ fold (λ a t. a + number t) n (map bare seen)
sums_same number bare same n [] = refl
sums_same number bare same n (t ∷ before) =
    sums_same number bare same (n + number t) before
    ∙ ap (λ k. fold (λ a t. a + number t) (n + k) (map bare before)) (same t)

-- ---- tasks

abbrev pub bare_task : TaskTick → TaskTick
bare_task t =
    record {
      tick = t.tick;
      seen = t.seen;
      lower_executes = false;
      has_failed = t.has_failed;
      blockers = None;
    }

ready_bare : (seen : List TaskTick) → ready_since seen ≡ ready_since (map bare_task seen)
ready_bare [] = refl
ready_bare (t ∷ before) =
    ap (λ ready. cond (leaves t) (later (entered t ready)) (entered t ready)) (ready_bare before)

responses_bare : (seen : List TaskTick) → responses seen ≡ responses (map bare_task seen)
responses_bare [] = refl
responses_bare (t ∷ before) =
    ap₂ (λ ready others. put (cond (leaves t) (oldest_response t.tick (entered t ready)) None)
    others) (ready_bare before) (responses_bare before)

refused_bare : (seen : List TaskTick)
    → sum_by (λ (t : TaskTick). t.seen.refused) seen
    ≡ sum_by (λ (t : TaskTick). t.seen.refused) (map bare_task seen)
refused_bare seen = sums_same (λ (t : TaskTick). t.seen.refused) bare_task (λ t. refl) 0 seen

errors_bare : (seen : List TaskTick)
    → count_by (λ (t : TaskTick). t.has_failed) seen
    ≡ count_by (λ (t : TaskTick). t.has_failed) (map bare_task seen)
errors_bare seen = sums_same (λ (t : TaskTick). cond t.has_failed 1 0) bare_task (λ t. refl) 0 seen

figures_bare : (seen : List TaskTick)
    → response_figures seen ≡ response_figures (map bare_task seen)
unfolding response_figures
figures_bare seen = λ i. record {
  ready_since = ready_bare seen i;
  spread = spread (responses_bare seen i);
}

responses_of : (seen : List TaskTick) → (task_figures seen).responses ≡ response_figures seen
unfolding task_figures
responses_of seen = refl

refused_of : (seen : List TaskTick) → (task_figures seen).counts.refused
    ≡ capped (sum_by (λ (t : TaskTick). t.seen.refused) seen)
unfolding task_figures task_counts
refused_of seen = refl

errors_of : (seen : List TaskTick) → (task_figures seen).counts.errors
    ≡ capped (count_by (λ (t : TaskTick). t.has_failed) seen)
unfolding task_figures task_counts
errors_of seen = refl

pub task_responses_bare : (seen others : List TaskTick)
    → map bare_task seen ≡ map bare_task others
    → (task_figures seen).responses ≡ (task_figures others).responses
task_responses_bare seen others same =
    responses_of seen ∙ figures_bare seen ∙ ap response_figures same ∙ sym (figures_bare others)
    ∙ sym (responses_of others)

pub task_refused_bare : (seen others : List TaskTick)
    → map bare_task seen ≡ map bare_task others
    → (task_figures seen).counts.refused ≡ (task_figures others).counts.refused
task_refused_bare seen others same =
    refused_of seen ∙ ap capped (refused_bare seen)
    ∙ ap (λ (ts : List TaskTick). capped (sum_by (λ t. t.seen.refused) ts)) same
    ∙ sym (ap capped (refused_bare others)) ∙ sym (refused_of others)

pub task_errors_bare : (seen others : List TaskTick)
    → map bare_task seen ≡ map bare_task others
    → (task_figures seen).counts.errors ≡ (task_figures others).counts.errors
task_errors_bare seen others same =
    errors_of seen ∙ ap capped (errors_bare seen)
    ∙ ap (λ (ts : List TaskTick). capped (count_by (λ t. t.has_failed) ts)) same
    ∙ sym (ap capped (errors_bare others)) ∙ sym (errors_of others)

-- What is counted of a task, over the ticks that were seen, newest first.
use Rattle.std.specs.Prelude.{ℕ, List, [], ◌∷◌, Option, Some, None, sum_by, count_by, cond, max, nat_lt, ◌-◌, ◌+◌}
use Rattle.view_figures.specs.declared.task_tick.TaskTick.{TaskTick}
use Rattle.view_figures.specs.declared.task_counts.TaskCounts.{TaskCounts}
use Rattle.view_figures.specs.Counts.{capped}
use Rattle.view_figures.specs.Reaching.{first_tick}

-- the jobs that stand at the last tick's instruction, and that it doesn't end
abbrev pub left_jobs : TaskTick → ℕ
left_jobs t = t.seen.jobs - cond t.seen.ended 1 0

abbrev pub unfinished : List TaskTick → ℕ
unfinished [] = 0
unfinished (t ∷ before) = left_jobs t

-- the greatest number of blockers that was told
abbrev pub more_blockers : Option ℕ → Option ℕ → Option ℕ
more_blockers None most = most
more_blockers (Some n) None = Some n
more_blockers (Some n) (Some most) = Some (max most n)

abbrev pub most_blockers : List TaskTick → Option ℕ
most_blockers [] = None
most_blockers (t ∷ before) = more_blockers t.blockers (most_blockers before)

-- the first tick in which an activation was refused
abbrev pub first_refusal : List TaskTick → Option ℕ
first_refusal [] = None
first_refusal (t ∷ before) = first_tick (nat_lt 0 t.seen.refused) t.tick (first_refusal before)

-- the jobs made and ended, the activations refused, the services answered other than E_OK
unfoldable pub task_counts : List TaskTick → TaskCounts
task_counts seen = record {
  activations = capped (sum_by (λ t. t.seen.made) seen);
  refused = capped (sum_by (λ t. t.seen.refused) seen);
  ended = capped (count_by (λ t. t.seen.ended) seen);
  unfinished = unfinished seen;
  errors = capped (count_by (λ t. t.has_failed) seen);
  blockers = most_blockers seen;
  first_refusal = first_refusal seen;
}

-- the jobs that a tick makes and ends, and the activations that it refuses
abbrev pub jobs_on : TaskTick → TaskCounts → TaskCounts
jobs_on t f = record f {
  activations = capped (f.activations + t.seen.made);
  refused = capped (f.refused + t.seen.refused);
  ended = capped (f.ended + cond t.seen.ended 1 0);
  first_refusal = first_tick (nat_lt 0 t.seen.refused) t.tick f.first_refusal;
}

-- Responses of a task, over the ticks that were seen, newest first: of each job the ticks from that in which it became
-- ready to that in which it ended or began to wait, both counted. Jobs of a task end in the order in which they were made.
use Rattle.std.specs.Prelude.{ℕ, zero, suc, true, false, Option, Some, None, List, [], ◌∷◌, ◌++◌, sum_by, length, cond, min, nat_lt, ◌+◌, ◌-◌, ◌^◌}
use Rattle.osek_base.specs.declared.status.TaskState.TheVariants.{Running, Waiting, Ready, Suspended}
use Rattle.seen_ticks.specs.declared.task_seen.TaskSeen.{TaskSeen}
use Rattle.view_figures.specs.declared.task_tick.TaskTick.{TaskTick}
use Rattle.view_figures.specs.declared.reached.Reached.{Reached}
use Rattle.view_figures.specs.declared.spread.Spread.{Spread}
use Rattle.view_figures.specs.declared.response_figures.TheConstants.{MAX_UNFINISHED}
use Rattle.view_figures.specs.Counts.{capped, capped_sum}
use Rattle.view_figures.specs.Reaching.{worst, put}
use Rattle.view_figures.specs.StateSums.{is_waiting, leaves}

-- the numbers' count, sum, least and greatest
abbrev pub least : List Reached → ℕ
least [] = 2 ^ 32 - 1
least (r ∷ rs) = min (least rs) r.ticks

unfoldable pub spread : List Reached → Spread
spread rs = record {
  count = capped (length rs);
  sum = capped_sum (sum_by (λ r. r.ticks) rs);
  least = least rs;
  greatest = worst rs;
}

-- the jobs that stand ready or run at the instruction: of a task that waits its one job doesn't
abbrev pub standing : TaskTick → ℕ
standing t = t.seen.jobs - cond (is_waiting t) 1 0

-- of what is seen of a task
abbrev pub standing_jobs : TaskSeen → ℕ
standing_jobs s = s.jobs - cond (elim s.state [ Running ↦ false | Waiting ↦ true | Ready ↦ false | Suspended ↦ false ]) 1 0

-- a job more that is ready since a tick, the newest; it isn't followed where there are as many as can be
abbrev pub one_more : ℕ → List ℕ → List ℕ
one_more tick since = cond (nat_lt (length since) MAX_UNFINISHED) (since ++ tick ∷ []) since

-- some jobs more
abbrev pub some_more : ℕ → ℕ → List ℕ → List ℕ
some_more tick zero since = since
some_more tick (suc n) since = one_more tick (some_more tick n since)

-- those that stand and weren't followed are ready since this tick
abbrev pub entered : TaskTick → List ℕ → List ℕ
entered t since = some_more t.tick (standing t - length since) since

-- the jobs behind the oldest
abbrev pub later : List ℕ → List ℕ
later [] = []
later (s ∷ since) = since

-- since which tick each job is ready that neither ended nor waits, oldest first
abbrev pub ready_since : List TaskTick → List ℕ
ready_since [] = []
ready_since (t ∷ before) = cond (leaves t) (later (entered t (ready_since before))) (entered t (ready_since before))

-- the ticks from one to another, both counted
abbrev pub response : ℕ → ℕ → ℕ
response since tick = capped (tick - since + 1)

-- the response of the oldest job, where it ends or waits in a tick
abbrev pub oldest_response : ℕ → List ℕ → Option Reached
oldest_response tick [] = None
oldest_response tick (s ∷ since) = Some (record { ticks = response s tick; at = tick })

-- the responses, newest first
abbrev pub responses : List TaskTick → List Reached
responses [] = []
responses (t ∷ before) =
    put (cond (leaves t) (oldest_response t.tick (entered t (ready_since before))) None) (responses before)

-- what is kept of responses: since when the others are ready, and how the responses lie
pub record Responses : Type 0 where
  pub ready_since : List ℕ
  pub spread : Spread

unfoldable pub response_figures : List TaskTick → Responses
response_figures seen = record { ready_since = ready_since seen; spread = spread (responses seen) }

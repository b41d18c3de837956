-- OSEK/VDX OS: task management. Ages of a task's jobs: for how many ticks each stands ready, the
-- present one counted.
use Rattle.std.specs.Prelude.{ℕ, suc, ◌≡◌, ◌≤◌, ◌-◌, List, [], ◌∷◌, ◌++◌, map, replicate, length, min, cond, Option, Some, None}
use Rattle.view_figures.specs.declared.task_tick.TaskTick.{TaskTick}
use Rattle.view_figures.specs.declared.response_figures.TheConstants.{MAX_UNFINISHED}
use Rattle.view_figures.specs.ResponseSums.{standing, later, ready_since, oldest_response, response_figures}
use Rattle.view_figures.specs.StateSums.{leaves}
use Rattle.law_figures.specs.Labels.{Label, label_after, AreNumbered, reached, IsGreatest, IsOrder, ShowsNoLess}

-- the jobs that stand ready or run in a tick, no more than figures follow
abbrev pub followed : TaskTick → ℕ
followed t = min (standing t) MAX_UNFINISHED

-- the ages in a tick, oldest first: each is a tick older, and those that stand and had none are new
abbrev pub ages_in : TaskTick → List ℕ → List ℕ
ages_in t old = map suc old ++ replicate (followed t - length old) 1

-- and after it, where the oldest may have ended or begun to wait
abbrev pub ages_next : TaskTick → List ℕ → List ℕ
ages_next t old = cond (leaves t) (later (ages_in t old)) (ages_in t old)

abbrev pub ages : Label TaskTick (List ℕ)
ages = record { first = []; next = ages_next }

abbrev pub oldest : List ℕ → Option ℕ
oldest [] = None
oldest (n ∷ rest) = Some n

-- what is shown in a tick: the age of the oldest, and that with which it ends or begins to wait
abbrev pub oldest_age : TaskTick → List ℕ → Option ℕ
oldest_age t old = oldest (ages_in t old)

abbrev pub leaving_age : TaskTick → List ℕ → Option ℕ
leaving_age t old = cond (leaves t) (oldest_age t old) None

abbrev pub tick_of : TaskTick → ℕ
tick_of t = t.tick

-- at least as many ages, each at least as old
abbrev pub AreOlder : List ℕ → List ℕ → Type 0
AreOlder old [] = Unit {0}
AreOlder [] (n ∷ others) = ⊥
AreOlder (n ∷ old) (k ∷ others) = (k ≤ n) × AreOlder old others

-- ---- laws

-- the longest response is the greatest age with which a job ends or begins to wait
abbrev pub ResponsesAreAges : Type 0
ResponsesAreAges =
    (seen : List TaskTick) → AreNumbered tick_of seen
    → IsGreatest ages tick_of leaving_age seen (response_figures seen).spread.greatest

-- the oldest job left is as old as its label
abbrev pub OldestIsAge : Type 0
OldestIsAge =
    (t : TaskTick) (before : List TaskTick) → AreNumbered tick_of (t ∷ before)
    → oldest_response t.tick (ready_since (t ∷ before))
    ≡ reached t.tick (oldest (label_after ages (t ∷ before)))

-- older ages stay older, and show no less
pub record AgesKeepOrder : Type 0 where
  pub order : IsOrder ages AreOlder
  pub oldest : ShowsNoLess AreOlder oldest_age
  pub leaving : ShowsNoLess AreOlder leaving_age

-- Labels go by what is seen of a thing in a tick, whatever the tick's number and what else is seen.
use Rattle.std.specs.Prelude.{ℕ, ◌≡◌, List, Option}
use Rattle.view_figures.specs.declared.task_tick.TaskTick.{TaskTick}
use Rattle.view_figures.specs.declared.routine_figures.RoutineTick.{RoutineTick}
use Rattle.view_figures.specs.declared.resource_figures.HolderTick.{HolderTick}
use Rattle.law_figures.specs.Ages.{ages_next, oldest_age, leaving_age}
use Rattle.law_figures.specs.Pending.{pending_in, pending_next, start_latency}
use Rattle.law_figures.specs.Holding.{Hold, hold_next, held_ticks}
use Rattle.law_figures.specs.Times.{waited}

-- two ticks show the same of ages, and leave the same
pub record AgesAgree (t u : TaskTick) (old : List ℕ) : Type 0 where
  pub next : ages_next t old ≡ ages_next u old
  pub oldest : oldest_age t old ≡ oldest_age u old
  pub leaving : leaving_age t old ≡ leaving_age u old

pub record PendingAgrees (r u : RoutineTick) (age : Option ℕ) : Type 0 where
  pub next : pending_next r age ≡ pending_next u age
  pub pending : pending_in r age ≡ pending_in u age
  pub latency : start_latency r age ≡ start_latency u age
  pub waited : waited r age ≡ waited u age

pub record HoldsAgree (h g : HolderTick) (hold : Hold) : Type 0 where
  pub next : hold_next h hold ≡ hold_next g hold
  pub held : held_ticks h hold ≡ held_ticks g hold

-- ---- the law: where the same is seen, they do

pub record LabelsGoBySeen : Type 0 where
  pub ages : (t u : TaskTick) (old : List ℕ) → t.seen ≡ u.seen → AgesAgree t u old
  pub pending : (r u : RoutineTick) (age : Option ℕ) → r.seen ≡ u.seen → PendingAgrees r u age
  pub holds : (h g : HolderTick) (hold : Hold) → h.holder ≡ g.holder → HoldsAgree h g hold

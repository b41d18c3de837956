-- OSEK/VDX OS: resource management. By whom a resource is held, and for how many ticks in a row,
-- the present one counted.
use Rattle.std.specs.Prelude.{ℕ, suc, ◌≤◌, List, cond, is_some, Option, Some, None}
use Rattle.view_figures.specs.declared.resource_figures.HolderTick.{HolderTick}
use Rattle.view_figures.specs.ResourceSums.{is_same, resource_figures}
use Rattle.law_figures.specs.Labels.{Label, IsGreatest, IsOrder, ShowsNoLess}

pub record Hold : Type 0 where
  pub holder : Option ℕ
  pub held : ℕ

-- for how many ticks in a row a task has held it
abbrev pub held_by : ℕ → Hold → ℕ
held_by t hold = cond (is_same (Some t) hold.holder) hold.held 0

abbrev pub held_in : Option ℕ → Hold → ℕ
held_in None hold = 0
held_in (Some t) hold = suc (held_by t hold)

abbrev pub hold_next : HolderTick → Hold → Hold
hold_next h hold = record { holder = h.holder; held = held_in h.holder hold }

abbrev pub holding : Label HolderTick Hold
holding = record { first = record { holder = None; held = 0 }; next = hold_next }

-- what is shown in a tick
abbrev pub held_ticks : HolderTick → Hold → Option ℕ
held_ticks h hold = cond (is_some h.holder) (Some (held_in h.holder hold)) None

abbrev pub tick_of : HolderTick → ℕ
tick_of h = h.tick

-- each task has held it at least as long
abbrev pub IsLonger : Hold → Hold → Type 0
IsLonger hold other = (t : ℕ) → held_by t other ≤ held_by t hold

-- ---- laws

-- the longest hold is the greatest that labels show
abbrev pub HoldsAreLabels : Type 0
HoldsAreLabels =
    (seen : List HolderTick)
    → IsGreatest holding tick_of held_ticks seen (resource_figures seen).longest

-- a longer hold stays longer, and shows no less
pub record HoldingKeepsOrder : Type 0 where
  pub order : IsOrder holding IsLonger
  pub held : ShowsNoLess IsLonger held_ticks

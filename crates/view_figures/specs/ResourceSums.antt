-- Figures of a resource, over the ticks that were seen and who held it in each, newest first.
use Rattle.std.specs.Prelude.{Bool, true, false, ℕ, List, [], ◌∷◌, Option, Some, None, cond, ◌+◌, ◌==◌, is_some}
use Rattle.view_figures.specs.declared.reached.Reached.{Reached}
use Rattle.view_figures.specs.declared.resource_figures.HolderTick.{HolderTick}
use Rattle.view_figures.specs.declared.resource_figures.ResourceFigures.{ResourceFigures}
use Rattle.view_figures.specs.Counts.{capped}
use Rattle.view_figures.specs.Reaching.{worse_of}

-- a task holds it, and held it before
abbrev pub is_same : Option ℕ → Option ℕ → Bool
is_same None before = false
is_same (Some t) None = false
is_same (Some t) (Some u) = t == u

-- a task holds it that didn't before
abbrev pub is_got : Option ℕ → Option ℕ → Bool
is_got None before = false
is_got (Some t) before = cond (is_same (Some t) before) false true

-- the holder in the last tick
abbrev pub last_holder : List HolderTick → Option ℕ
last_holder [] = None
last_holder (h ∷ before) = h.holder

-- how often a task got it
abbrev pub gets : List HolderTick → ℕ
gets [] = 0
gets (h ∷ before) = gets before + cond (is_got h.holder (last_holder before)) 1 0

-- the ticks in a row with one holder, where before this tick there were so many
abbrev pub hold_on : Option ℕ → Option ℕ → ℕ → ℕ
hold_on h before held = cond (is_same h before) (capped (held + 1)) (cond (is_some h) 1 0)

-- the ticks in a row with the last holder
abbrev pub hold : List HolderTick → ℕ
hold [] = 0
hold (h ∷ before) = hold_on h.holder (last_holder before) (hold before)

-- a hold is as long as a tick finds it
abbrev pub hold_at : HolderTick → ℕ → Option Reached
hold_at h held = cond (is_some h.holder) (Some (record { ticks = held; at = h.tick })) None

abbrev pub longest_hold : List HolderTick → Option Reached
longest_hold [] = None
longest_hold (h ∷ before) = worse_of (longest_hold before) (hold_at h (hold (h ∷ before)))

unfoldable pub resource_figures : List HolderTick → ResourceFigures
resource_figures seen = record {
  gets = capped (gets seen);
  longest = longest_hold seen;
  holder = last_holder seen;
  held = hold seen;
}

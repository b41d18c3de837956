-- OSEK/VDX OS: interrupt processing. The flags of pending routines.
use Rattle.std.specs.Prelude.{ℕ, ◌≡◌, ◌<◌, Bool, false, List, Option, IfSome, slice_index_or, length}
use Rattle.osek_base.specs.Lists.{below, foremost}
use Rattle.osek_base.specs.System.{System, routine}

-- no routine is pending
abbrev pub AreUnset : List Bool → Type 0
AreUnset flags = (i : ℕ) → slice_index_or flags i false ≡ false

-- among the pending routines the first declared with the greatest priority, which is one of the system
pub record IsForemost (S : System) (flags : List Bool) (found : Option ℕ) : Type 0 where
  pub choice : found
      ≡ foremost (λ i. slice_index_or flags i false) (λ i. (routine S i).priority) (below (length S.routines))
  pub known : IfSome found (λ i. i < length S.routines)

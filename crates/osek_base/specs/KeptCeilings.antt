-- OSEK/VDX OS: resource management, priority ceiling protocol. The ceilings that a system keeps, so that none is computed
-- while it runs.
use Rattle.std.specs.Prelude.{ℕ, ◌≡◌, ◌<◌, List, Option, None, slice_index, slice_index_or}
use Rattle.osek_base.specs.declared.ceilings.Ceilings.{Ceilings}
use Rattle.osek_base.specs.declared.limits.TheConstants.{MAX_TASKS, MAX_RESOURCES}
use Rattle.osek_base.specs.System.{System}
use Rattle.osek_base.specs.Ceiling.{top_priority, declared_ceiling, internal_ceiling}

-- a list has the ceiling of each resource number up to n; the internal ceiling of each task number up to n
abbrev pub HasCeilings : System → List ℕ → ℕ → Type 0
HasCeilings S ceilings n = (r : ℕ) → r < n → slice_index ceilings r ≡ declared_ceiling S r

abbrev pub HasInternal : System → List (Option ℕ) → ℕ → Type 0
HasInternal S ceilings n = (t : ℕ) → t < n → slice_index_or ceilings t None ≡ internal_ceiling S t

-- the kept ceilings are those of the system
pub record AreCeilings (S : System) (kept : Ceilings) : Type 0 where
  pub declared : HasCeilings S kept.declared MAX_RESOURCES
  pub top : kept.top ≡ top_priority S
  pub internal : HasInternal S kept.internal MAX_TASKS

-- The table in which all is needed.
use Rattle.std.specs.Prelude.{ℕ, ◌≡◌, nat_lt, Some, List, [], slice_get}
use Rattle.osek_base.specs.declared.limits.TheConstants.{WINDOW_WORDS, REGISTERS}
use Rattle.search_needs.specs.declared.table.OwnerNeeds.{OwnerNeeds}
use Rattle.search_needs.specs.Table.{has}

-- all of a task or routine is needed: each register and word, and no indices are told, so each may be
pub record IsAll (own : OwnerNeeds) : Type 0 where
  pub registers : (r : ℕ) → has own.registers r ≡ nat_lt r REGISTERS
  pub words : (i : ℕ) → has own.words i ≡ nat_lt i WINDOW_WORDS
  pub indices : own.indices.items ≡ []

-- of each of a list
abbrev pub AreAll : List OwnerNeeds → Type 0
AreAll owners = (k : ℕ) (own : OwnerNeeds) → slice_get owners k ≡ Some own → IsAll own

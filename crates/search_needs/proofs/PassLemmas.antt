-- Registers one by one, and all of them.
use Rattle.std.proofs.Common.{ℕ, ◌<◌, ◌≤◌, true, IsTrue, List, refl, ap}
use Rattle.std.specs.Prelude.{Option, Some, None, slice_get, slice_index, nat_le, ◌||◌}
use Rattle.std.specs.Option.{option_map_or}
use Rattle.std.proofs.lemmas.Bool.{le-leb}
use Rattle.osek_base.specs.declared.limits.TheConstants.{REGISTERS}
use Rattle.search_needs.specs.Table.{has, allows}

-- the first n registers, but for some, may have at a place what they may have at another
abbrev pub PassBelow : (ℕ → Type 0) → List (List ℕ) → ℕ → ℕ → ℕ → Type 0
PassBelow but rows place to n =
    (r : ℕ) → r < n → (but r → ⊥) → (i : ℕ) → IsTrue (allows rows place r i) → IsTrue (allows rows to r i)

-- beyond r7 a register may have each index
pub beyond_all : (rows : List (List ℕ)) (place r i : ℕ) → REGISTERS ≤ r → IsTrue (allows rows place r i)
beyond_all rows place r i past = go (slice_get rows place)
  where
    go : (row : Option (List ℕ)) → IsTrue (option_map_or (λ words. nat_le REGISTERS r || has (slice_index words r) i) row true)
    go None = refl
    go (Some row) = ap (λ b. b || has (slice_index row r) i) (le-leb REGISTERS r past)

-- What stands first among bytes, and those behind it.
use Rattle.std.specs.Prelude.{ℕ, zero, suc, ◌≡◌, ◌+◌, ◌*◌, ◌-◌, nat_lt, if◌then◌else◌, List, [], ◌∷◌, ◌++◌, Option, Some, None}
use Rattle.search_keys.specs.Bytes.{number, optional}
use Rattle.search_keys.specs.Counts.{count_bytes}

-- a digit below higher ones
abbrev pub with_digit : ℕ → ℕ × List ℕ → ℕ × List ℕ
with_digit digit higher = (digit + 128 * higher.0, higher.1)

-- a number of at most k digits before its last one; 0 where nothing stands
unfoldable pub taken_digits : ℕ → List ℕ → ℕ × List ℕ
taken_digits k [] = (0, [])
taken_digits zero (byte ∷ bytes) = (byte, bytes)
taken_digits (suc k) (byte ∷ bytes) =
    if nat_lt byte 128 then (byte, bytes) else with_digit (byte - 128) (taken_digits k bytes)

unfoldable pub taken_number : List ℕ → ℕ × List ℕ
taken_number bytes = taken_digits 4 bytes

unfoldable pub taken_count : List ℕ → ℕ × List ℕ
taken_count bytes = taken_digits 8 bytes

-- nothing where 0 stands, or nothing does
unfoldable pub taken_optional : List ℕ → Option ℕ × List ℕ
taken_optional [] = (None, [])
taken_optional (zero ∷ bytes) = (None, bytes)
taken_optional (suc more ∷ bytes) =
    (Some (taken_number bytes).0, (taken_number bytes).1)

-- ---- the law

-- what was written is what is read, whatever follows
abbrev pub IsReadBack : {X : Type 0} → (X → List ℕ) → (List ℕ → X × List ℕ) → Type 0
IsReadBack {X} bytes taken = (x : X) (rest : List ℕ) → taken (bytes x ++ rest) ≡ (x, rest)

pub record NumbersAreReadBack : Type 0 where
  pub plain : IsReadBack number taken_number
  pub count : IsReadBack count_bytes taken_count
  pub maybe : IsReadBack (optional number) taken_optional

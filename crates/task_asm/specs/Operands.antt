-- The last hexadecimal digits of a mask.
use Rattle.std.specs.Prelude.{ℕ, zero, suc, ◌/◌, ◌%◌, Bool, List, [], ◌∷◌, ◌++◌}
use Rattle.std.specs.Fmt.{digit_glyph}

-- the last hexadecimal digits of a number, so many
abbrev pub last_digits : ℕ → ℕ → List ℕ
last_digits zero n = []
last_digits (suc count) n = last_digits count (n / 16) ++ digit_glyph Bool.false (n % 16) ∷ []

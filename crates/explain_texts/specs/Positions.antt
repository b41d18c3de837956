-- Lines and columns of a text.
use Rattle.std.specs.Prelude.{ℕ, ◌+◌, ◌==◌, List, [], ◌∷◌, length, take, if◌then◌else◌}
use Rattle.std.specs.List.{filter}

-- how many lines end in the text
abbrev pub line_ends : List ℕ → ℕ
line_ends text = length (filter (λ b. b == 10) text)

-- how many bytes stand behind the last line end, where so many stood before the text
abbrev pub bytes_since : ℕ → List ℕ → ℕ
bytes_since n [] = n
bytes_since n (b ∷ text) = bytes_since (if b == 10 then 0 else n + 1) text

-- the line of a place, counted from 1
abbrev pub line_of : List ℕ → ℕ → ℕ
line_of text place = 1 + line_ends (take place text)

-- the column of a place, in bytes, counted from 1
abbrev pub column_of : List ℕ → ℕ → ℕ
column_of text place = 1 + bytes_since 0 (take place text)

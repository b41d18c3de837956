-- OIL: names of objects. The numbers of names in a list.
use Rattle.std.specs.Prelude.{ℕ, List}
use Rattle.std.specs.Option.{unwrap_or}
use Rattle.osek_base.specs.Names.{number_of}

-- the number of the object of that name, 0 where there is none
abbrev pub number : List (List ℕ) → List ℕ → ℕ
number names name = unwrap_or (number_of name names) 0

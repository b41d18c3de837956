-- OIL: grammar. Plain OIL: the texts that this project's reader takes.
use Rattle.std.specs.Prelude.{ℕ, List}
use Rattle.oil_reader.specs.Configuration.{Configuration}
use Rattle.oil_reader.specs.Faults.{Means}

-- the text means some file, and so has no fault
abbrev pub IsPlain : List ℕ → Type 0
IsPlain text = (c : Configuration) × Means text c

-- The name of the application mode that a command line asks for.
use Rattle.std.specs.Prelude.{ℕ, ◌≡◌, List, [], ◌∷◌, Option, Some, None}
use Rattle.std.specs.Borrow.{Bor}
use Rattle.oil_reader.specs.Configuration.{Configuration}
use Rattle.oil_reader.specs.Faults.{Means}

-- the one that is alone, empty where there are several
abbrev pub only_name : List (List ℕ) → List ℕ
only_name [] = []
only_name (name ∷ []) = name
only_name (name ∷ other ∷ names) = []

-- the name that a line says, or else that of the only mode of the OIL file
abbrev pub IsModeName : List ℕ → Option (Bor (List ℕ)) → List ℕ → Type 0
IsModeName oil (Some said) name = name ≡ said.now
IsModeName oil None name = (c : Configuration) × Means oil c × (name ≡ only_name c.app_modes)

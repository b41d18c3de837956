-- The application mode that a command line asks for.
use Rattle.std.specs.Prelude.{ℕ, ◌≡◌, List, Option, Some}
use Rattle.std.specs.Borrow.{Bor}
use Rattle.osek_base.specs.Names.{number_of}
use Rattle.cli_answers.specs.ModeNames.{IsModeName}

-- of a system's modes the one of a name: of that which the line says, or else of that of the only
-- mode of the OIL file
pub record IsModeAsked (oil : List ℕ) (modes : List (List ℕ)) (said : Option (Bor (List ℕ)))
    (mode : ℕ) : Type 0 where
  pub name : List ℕ
  pub asked : IsModeName oil said name
  pub known : number_of name modes ≡ Some mode

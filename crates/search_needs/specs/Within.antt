-- A need of what a system has.
use Rattle.std.specs.Prelude.{ℕ, ◌<◌, IsTrue, length}
use Rattle.osek_base.specs.declared.limits.TheConstants.{WINDOW_WORDS, REGISTERS}
use Rattle.osek_base.specs.declared.ids.Owner.{Owner}
use Rattle.osek_base.specs.System.{System}
use Rattle.osek_base.specs.Separable.{IsOwner}
use Rattle.law_future.specs.Need.{Need}

-- what is needed are registers and words of the tasks and routines that there are, and windows of the resources
pub record IsWithin (S : System) (need : Need) : Type 0 where
  pub registers : (who : Owner) (r : ℕ) → IsTrue (need.registers who r) → IsOwner S who × (r < REGISTERS)
  pub words : (who : Owner) (i : ℕ) → IsTrue (need.words who i) → IsOwner S who × (i < WINDOW_WORDS)
  pub shared : (r : ℕ) → IsTrue (need.shared r) → r < length S.resources

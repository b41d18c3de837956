-- What the keys of machines tell.
use Rattle.std.specs.Prelude.{◌≡◌, Bool}
use Rattle.law_future.specs.Need.{Need}
use Rattle.law_future.specs.AlikeIn.{AreAlikeIn}
use Rattle.kernel.specs.Machine.{IsOfRun, Machine, picture, system_of}
use Rattle.search_needs.specs.Within.{IsWithin}
use Rattle.search_keys.specs.Key.{key}

-- two machines of one system, to each of which a run has come: where their keys are equal, they are
-- alike in what is needed
abbrev pub MachineKeysTell : Type 0
MachineKeysTell =
    (counted : Bool) (need : Need) (m n : Machine) → IsOfRun counted m → IsOfRun counted n
    → system_of n ≡ system_of m → IsWithin (system_of m) need
    → key (system_of m) need (picture m) ≡ key (system_of m) need (picture n)
    → AreAlikeIn (system_of m) need (picture m) (picture n)

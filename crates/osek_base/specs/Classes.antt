-- OSEK/VDX OS: conformance classes. The first class that allows a system.
use Rattle.std.specs.Prelude.{ℕ, Bool, true, not, ◌&&◌, nat_le, if◌then◌else◌, List, [], ◌∷◌, map, codes}
use Rattle.std.specs.List.{list_all}
use Rattle.osek_base.specs.Types.{Class}
use Rattle.osek_base.specs.Lists.{is_empty, is_in}
use Rattle.osek_base.specs.System.{System}

-- no number stands twice
abbrev pub are_distinct : List ℕ → Bool
are_distinct [] = true
are_distinct (n ∷ ns) = not (is_in n ns) && are_distinct ns

-- no task is extended
abbrev pub is_basic : System → Bool
is_basic S = list_all (λ a. is_empty a.events) S.tasks

-- one activation a task, and one task a priority
abbrev pub is_single : System → Bool
is_single S = list_all (λ a. nat_le a.activation 1) S.tasks && are_distinct (map (λ a. a.priority) S.tasks)

-- the first of BCC1, BCC2, ECC1, ECC2 that allows the system
abbrev pub class_of : System → Class
class_of S =
    if is_basic S && is_single S then Class.Bcc1
    else (if is_basic S then Class.Bcc2
    else (if is_single S then Class.Ecc1 else Class.Ecc2))

abbrev pub class_name : Class → List ℕ
class_name Class.Bcc1 = codes "BCC1"
class_name Class.Bcc2 = codes "BCC2"
class_name Class.Ecc1 = codes "ECC1"
class_name Class.Ecc2 = codes "ECC2"

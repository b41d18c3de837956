-- Refusals of the code, as those of the laws.
use Rattle.std.specs.Prelude.{◌≡◌, Bool, List, Option}
use Rattle.osek_base.specs.declared.status.Status.{Status}
use Rattle.osek_base.specs.System.{System}
use Rattle.osek_base.specs.Types.{ServiceCall}
use Rattle.law_nodes.specs.Nodes.{Node}
use Rattle.law_nodes.specs.Services.{caller_at, first_refusals, refusals_of}

-- what may be the first of those that applies is what may be the first of a service's refusals
abbrev pub Refuse : System → Node → List (Option Bool × Status) → ServiceCall → Type 0
Refuse S n tests call =
    first_refusals tests ≡ first_refusals (refusals_of S (caller_at n) n.registers call)

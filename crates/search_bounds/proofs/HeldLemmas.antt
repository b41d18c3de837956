-- Machines stay those of a system.
use Rattle.std.proofs.Common.{ℕ, ◌≡◌, List, ◌∷◌, [], ◌++◌, set, subst, sym}
use Rattle.std.specs.List.{All}
use Rattle.std.proofs.lemmas.List.Elements.{All-set, All-push}
use Rattle.osek_base.specs.System.{System}
use Rattle.kernel.specs.Machine.{Machine}
use Rattle.search_bounds.specs.Held.{IsOf}
use Rattle.search_bounds.specs.declared.bases.Base.{Base}

-- a machine that became another one
pub became : (S T : System) (base : Base) (m : Machine) → S ≡ T → base.machine ≡ m → IsOf S m
    → IsOf T base.machine
became S T base m same machine is =
    subst (IsOf T) (sym machine) (subst (λ U. IsOf U m) same is)

pub set_in : (S : System) (held : List Base) (place : ℕ) (other : Base) → IsOf S other.machine
    → All (λ h. IsOf S h.machine) held → All (λ h. IsOf S h.machine) (set held place other)
set_in S held place other is are = All-set (λ h. IsOf S h.machine) held place other is are

pub push_in : (S : System) (held more : List Base) (other : Base) → more ≡ held ++ other ∷ []
    → IsOf S other.machine → All (λ h. IsOf S h.machine) held → All (λ h. IsOf S h.machine) more
push_in S held more other same is are =
    subst (All (λ h. IsOf S h.machine)) (sym same)
    (All-push (λ h. IsOf S h.machine) held other are is)

-- Isolation: a proper and separable system shows from above what its upper core shows, so systems that agree show the same.
use Rattle.std.proofs.Common.{ℕ, refl, sym}
use Rattle.osek_base.specs.System.{System}
use Rattle.osek_base.specs.Agree.{upper_core}
use Rattle.osek_base.specs.Proper.{IsProper}
use Rattle.osek_base.specs.Separable.{Separable}
use Rattle.osek_base.specs.Laws.{IsIsolated, HasTheViewOfItsCore}
use Rattle.partition_check.proofs.UpperState.{up}
use Rattle.partition_check.proofs.RunLemmas.{views_equal}
use Rattle.partition_check.proofs.IsolationLemmas.{isolated_by_parts}
use Rattle.partition_check.proofs.Core.{counterpart, low}
use Rattle.partition_check.proofs.Dispatch.{lines_none}
use Rattle.partition_check.proofs.Boot.{boot_alike}
use Rattle.partition_check.proofs.TickUp.{tick_alike, tick_sight}
use Rattle.partition_check.proofs.Shared.{IsLayered, SameLines}

-- the view of a separable system is that of its upper core
pub its_core : (S : System) (p : ℕ) → IsProper S → Separable S p → HasTheViewOfItsCore S p
its_core S p proper separable mode arrivals n inside =
    let both = counterpart S p proper separable in
    let below = low S p proper separable in
    let booted = boot_alike S p both below mode in
    views_equal S (upper_core S p) p (IsLayered S p) (up S p) (λ s. refl) (λ s. refl)
    (λ arrived s layered. (tick_alike S p both below proper separable arrived s layered).layered)
    (λ arrived s layered. sym (tick_alike S p both below proper separable arrived s layered).state)
    (SameLines S p) (lines_none S p) (tick_sight S p both below proper separable)
    mode arrivals (booted.layered, sym booted.state, refl, booted.lines) n

-- systems that agree from p upward have the same view
pub isolated : (S : System) (p : ℕ) → IsProper S → Separable S p → IsIsolated S p
isolated = isolated_by_parts its_core

-- OSEK/VDX OS: interrupt processing, resource management. Which interrupts pend and who holds a resource.
use Rattle.std.specs.Prelude.{ℕ, Bool, false, nat_lt, if◌then◌else◌, length, Option, slice_index_or}
use Rattle.std.specs.List.{find}
use Rattle.osek_base.specs.declared.ids.ResId.{ResId}
use Rattle.osek_base.specs.Lists.{below}
use Rattle.osek_base.specs.System.{System}
use Rattle.law_kept.specs.Kept.{Kept}
use Rattle.law_kept.specs.KeptService.{holds_in}

-- RES_SCHEDULER stands behind the declared resources
abbrev pub resource_of : System → ℕ → ResId
resource_of S r = if nat_lt r (length S.resources) then ResId.Declared r else ResId.Scheduler

-- the task that holds a resource
abbrev pub holder_in : System → Kept → ℕ → Option ℕ
holder_in S o r = find (λ t. holds_in (resource_of S r) (o.slots t)) (below (length S.tasks))

abbrev pub is_pending_in : Kept → ℕ → Bool
is_pending_in o i = slice_index_or o.pending i false

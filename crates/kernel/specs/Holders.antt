-- OSEK/VDX OS: resource management. Who holds each resource, by what is kept of a state.
use Rattle.std.specs.Prelude.{ℕ, ◌==◌, if◌then◌else◌, List, [], ◌∷◌, ◌++◌, map, drop, nat_lt, Option, Some, length, slice_set}
use Rattle.std.specs.List.{find}
use Rattle.osek_base.specs.declared.ids.ResId.{ResId}
use Rattle.osek_base.specs.Lists.{below}
use Rattle.osek_base.specs.System.{System}
use Rattle.law_kept.specs.Kept.{Kept, Slot}
use Rattle.law_kept.specs.KeptService.{holds_in}
use Rattle.law_kept.specs.Seen.{holder_in}
use Rattle.services.specs.Objects.{by_task}

-- the resource of a place: first those that are declared, of which there are so many, and behind them RES_SCHEDULER
abbrev pub resource_at : ℕ → ℕ → ResId
resource_at declared k = if k == declared then ResId.Scheduler else ResId.Declared k

-- of the tasks from one on the first whose oldest job holds the resource of a place
abbrev pub holder_from : List Slot → ℕ → ℕ → ℕ → Option ℕ
holder_from slots declared t k =
    find (λ u. holds_in (resource_at declared k) (by_task slots u)) (drop t (below (length slots)))

-- where a task holds a resource, that's what the place of the resource says, if there is one
abbrev pub noted : ℕ → ℕ → ResId → List (Option ℕ) → List (Option ℕ)
noted declared t (ResId.Declared r) places = if nat_lt r declared then slice_set places r (Some t) else places
noted declared t ResId.Scheduler places =
    if nat_lt declared (length places) then slice_set places declared (Some t) else places

-- where it holds some, one after another
abbrev pub all_noted : ℕ → ℕ → List ResId → List (Option ℕ) → List (Option ℕ)
all_noted declared t [] places = places
all_noted declared t (r ∷ rs) places = all_noted declared t rs (noted declared t r places)

-- who holds each declared resource, and behind them RES_SCHEDULER, where the system has it
abbrev pub holders_in : System → Kept → List (Option ℕ)
holders_in S o =
    map (λ r. holder_in S o (ResId.Declared r)) (below (length S.resources))
    ++ (if S.use_res_scheduler then holder_in S o ResId.Scheduler ∷ [] else [])

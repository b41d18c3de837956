-- The static priorities of a system's tasks, by number.
use Rattle.std.proofs.Common.{◌≡◌, ℕ, ◌<◌, ◌≤◌, length, sym, ap, subst}
use Rattle.std.proofs.lemmas.List.{get_or-map, get_or_past, length-map}
use Rattle.std.specs.Prelude.{nat_lt, slice_index_or}
use Rattle.osek_base.specs.System.{System, Task, no_task, priority_of}
use Rattle.view_figures.specs.FigureSums.{levels_of}

level_count : (S : System) → length (levels_of S) ≡ length S.tasks
level_count S = length-map S.tasks (λ (a : Task). a.priority)

pub has_level : (S : System) (t : ℕ)
    → nat_lt t (length S.tasks) ≡ nat_lt t (length (levels_of S))
has_level S t = ap (nat_lt t) (sym (level_count S))

pub level_is : (S : System) (t : ℕ) → t < length S.tasks
    → priority_of S t ≡ slice_index_or (levels_of S) t 0
level_is S t inside = sym (get_or-map (λ (a : Task). a.priority) S.tasks t no_task 0 inside)

pub no_level : (S : System) (t : ℕ) → length S.tasks ≤ t → 0 ≡ slice_index_or (levels_of S) t 0
no_level S t beyond =
    sym (get_or_past (levels_of S) t 0 (subst (λ n. n ≤ t) (sym (level_count S)) beyond))

-- What is kept of tasks and routines, one after another.
use Rattle.std.proofs.Common.{ℕ, ◌≡◌, ◌<◌, ◌≤◌, List, length, get_or}
use Rattle.view_timelines.specs.Rows.{Kept, nothing_kept}

-- the things below n are changed, the others aren't
pub record AreChangedBelow (n : ℕ) (change : ℕ → Kept → Kept) (old new : List Kept) : Type 0 where
  pub count : length new ≡ length old
  pub each : (k : ℕ) → k < n → get_or new k nothing_kept ≡ change k (get_or old k nothing_kept)
  pub others : (k : ℕ) → n ≤ k → get_or new k nothing_kept ≡ get_or old k nothing_kept

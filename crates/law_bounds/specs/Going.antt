-- States with one key have one future, and show the same.
use Rattle.std.specs.Prelude.{ℕ, ◌≡◌, ◌<◌, false, List, length}
use Rattle.std.specs.List.{All}
use Rattle.osek_base.specs.System.{System}
use Rattle.osek_base.specs.Proper.{IsProper}
use Rattle.law_kept.specs.Kept.{Kept}
use Rattle.law_kept.specs.KeptTick.{tick_in}
use Rattle.law_future.specs.Need.{Need, Suffices}
use Rattle.law_seen.specs.Seen.{executor_in, failure_in, seen_in}
use Rattle.search_keys.specs.InRange.{NeedsOwnWords}
use Rattle.search_keys.specs.Key.{key}
use Rattle.law_bounds.specs.Nodes.{Comes}

-- the run goes on from both by the same routines: their keys stay equal, what is seen is equal, and
-- so are who executes and a service that is answered other than E_OK
pub record GoOnAlike (S : System) (need : Need) (arrived : List ℕ) (o p : Kept) : Type 0 where
  pub key : key S need (tick_in S arrived o).after ≡ key S need (tick_in S arrived p).after
  pub over : (tick_in S arrived o).after.over ≡ (tick_in S arrived p).after.over
  pub executor : executor_in S arrived o ≡ executor_in S arrived p
  pub seen : seen_in S arrived o ≡ seen_in S arrived p
  pub failure : failure_in S arrived o ≡ failure_in S arrived p

-- both are over, or none is; and where none is they go on alike
pub record HaveOneFuture (S : System) (need : Need) (o p : Kept) : Type 0 where
  pub over : o.over ≡ p.over
  pub next : (arrived : List ℕ) → All (λ i. i < length S.routines) arrived → o.over ≡ false
      → GoOnAlike S need arrived o p

abbrev pub KeysTellFutures : Type 0
KeysTellFutures =
    (S : System) (need : Need) (o p : Kept) → IsProper S → Suffices S need → NeedsOwnWords S need
    → Comes S o → Comes S p → key S need o ≡ key S need p → HaveOneFuture S need o p

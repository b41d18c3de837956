-- Whether a tick of a run follows.
use Rattle.std.proofs.Common.{◌≡◌, ℕ, ◌<◌, Bool, true, false, List, refl, arith}
use Rattle.std.specs.Prelude.{◌||◌, nat_le}
use Rattle.std.proofs.lemmas.Bool.{true≢false}
use Rattle.osek_base.specs.declared.limits.TheConstants.{MAX_TICKS}
use Rattle.osek_base.specs.declared.arrivals.Arrival.{Arrival}
use Rattle.osek_base.specs.System.{System}
use Rattle.osek_base.specs.Trace.{run}
use Rattle.kernel.specs.Progress.{is_over}

-- a run of n ticks that isn't over, and isn't at the limit
pub record IsGoing (S : System) (mode : ℕ) (arrivals : List Arrival) (n : ℕ) : Type 0 where
  pub limit : n < MAX_TICKS
  pub on : (run S mode arrivals n).state.over ≡ false

going_parts : (a b : Bool) → (a || b) ≡ false → (a ≡ false) × (b ≡ false)
going_parts false false h = (refl, refl)
going_parts false true h = absurd (true≢false h)
going_parts true b h = absurd (true≢false h)

pub going : (S : System) (mode : ℕ) (arrivals : List Arrival) (n : ℕ)
    → is_over (record { system = S; mode = mode; arrivals = arrivals; ticks = n }) ≡ false → IsGoing S mode arrivals n
going S mode arrivals n h =
    let parts = going_parts (nat_le MAX_TICKS n) (run S mode arrivals n).state.over h in
    record { limit = grind (arith, parts.0); on = parts.1 }

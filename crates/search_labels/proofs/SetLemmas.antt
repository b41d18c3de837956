-- Sets of routines, as numbers of 64 bits.
use Rattle.std.proofs.Common.{ℕ, ◌≡◌, ◌<◌, ◌≤◌, ◌^◌, false, sym, ap}
use Rattle.std.proofs.lemmas.Nat.Bits.{bit_at_above}
use Rattle.std.specs.Prelude.{◌==◌}
use Rattle.search_labels.specs.Labels.{arrives_in}

-- none from 64 on is in it
pub not_in : (set i : ℕ) → set < 2 ^ 64 → 64 ≤ i → false ≡ arrives_in set i
not_in set i low high = ap (λ b. b == 1) (sym (bit_at_above set 64 i low high))

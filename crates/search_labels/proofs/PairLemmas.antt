-- Two lists gone over number by number.
use Rattle.std.proofs.Common.{ℕ, ◌≡◌, ◌<◌, ◌≤◌, List, length, get_or}

-- those below a number are made of two, the others are as they were
pub record AreMadeBelow {X : Type 0} (f : X → X → X) (d : X) (n : ℕ) (old other new : List X)
    : Type 0 where
  pub count : length new ≡ length old
  pub made : (i : ℕ) → i < n → get_or new i d ≡ f (get_or old i d) (get_or other i d)
  pub left : (i : ℕ) → n ≤ i → get_or new i d ≡ get_or old i d

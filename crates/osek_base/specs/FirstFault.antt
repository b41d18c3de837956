-- Which fault of a text is answered where there are several, for any kind of fault that has a place and a number.
use Rattle.std.specs.Prelude.{◌≡◌, ℕ, ◌<◌, ◌≤◌, ◌⊎◌}

-- where a fault stands, and its number
pub record Rank (F : Type 0) : Type 0 where
  pub place : F → ℕ
  pub number : F → ℕ

-- at the lesser place, or at one place the lower number
abbrev pub IsNoLater : {F : Type 0} → Rank F → F → F → Type 0
IsNoLater rank e g = (rank.place e < rank.place g) ⊎ ((rank.place e ≡ rank.place g) × (rank.number e ≤ rank.number g))

-- of the faults that stand, one that is no later than any
pub record IsFirst {F : Type 0} (rank : Rank F) (Stands : F → Type 0) (e : F) : Type 0 where
  pub stands : Stands e
  pub first : (g : F) → Stands g → IsNoLater rank e g

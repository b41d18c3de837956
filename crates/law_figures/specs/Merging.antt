-- Labels merged: what one label shows that stands for two.
use Rattle.std.specs.Prelude.{ℕ, ◌≡◌, max, List, [], ◌∷◌, Option, Some, None}
use Rattle.view_figures.specs.declared.resource_figures.HolderTick.{HolderTick}
use Rattle.law_figures.specs.Ages.{AreOlder}
use Rattle.law_figures.specs.Pending.{IsOlder}
use Rattle.law_figures.specs.Holding.{Hold, held_by, hold_next, IsLonger}

-- ages, oldest first, each the greater of two
abbrev pub merged_ages : List ℕ → List ℕ → List ℕ
merged_ages [] others = others
merged_ages (n ∷ old) [] = n ∷ old
merged_ages (n ∷ old) (k ∷ others) = max n k ∷ merged_ages old others

abbrev pub merged_age : Option ℕ → Option ℕ → Option ℕ
merged_age None age = age
merged_age (Some n) None = Some n
merged_age (Some n) (Some k) = Some (max n k)

-- two holds by one task
abbrev pub merged_hold : Hold → Hold → Hold
merged_hold hold other = record hold { held = max hold.held other.held }

-- what counts of a hold where a task holds the resource in the next tick, or none does
abbrev pub hold_of : Option ℕ → Hold → Hold
hold_of None hold = record { holder = None; held = 0 }
hold_of (Some t) hold = record { holder = Some t; held = held_by t hold }

-- a merged label is at least both, and at most each that is
pub record IsMerged {L : Type 0} (AtLeast : L → L → Type 0) (l m merged : L) : Type 0 where
  pub one : AtLeast merged l
  pub other : AtLeast merged m
  pub least : (n : L) → AtLeast n l → AtLeast n m → AtLeast n merged

-- ---- the law

pub record LabelsMerge : Type 0 where
  pub ages : (old others : List ℕ) → IsMerged AreOlder old others (merged_ages old others)
  pub pending : (age other : Option ℕ) → IsMerged IsOlder age other (merged_age age other)
  pub holds : (hold other : Hold) → hold.holder ≡ other.holder
      → IsMerged IsLonger hold other (merged_hold hold other)
  pub others : (h : HolderTick) (hold : Hold)
      → hold_next h (hold_of h.holder hold) ≡ hold_next h hold

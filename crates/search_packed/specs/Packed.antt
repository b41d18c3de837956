-- Labels as bytes.
use Rattle.std.specs.Prelude.{ℕ, zero, suc, ◌≡◌, ◌≤◌, ◌==◌, ◌+◌, drop, take, if◌then◌else◌, List, [], ◌∷◌, ◌++◌, length}
use Rattle.std.specs.List.{flat_map}
use Rattle.search_keys.specs.Bytes.{number, optional}
use Rattle.search_keys.specs.Counts.{count_bytes}
use Rattle.law_figures.specs.Holding.{Hold}
use Rattle.search_labels.specs.Labels.{Labels}

-- without the zeros at the end
abbrev pub put_bare : ℕ → List ℕ → List ℕ
put_bare zero [] = []
put_bare (suc n) [] = suc n ∷ []
put_bare n (b ∷ bytes) = n ∷ b ∷ bytes

unfoldable pub bare : List ℕ → List ℕ
bare [] = []
bare (n ∷ bytes) = put_bare n (bare bytes)

-- how many there are, and the bytes of one after another
abbrev pub listed : {X : Type 0} → (X → List ℕ) → List X → List ℕ
listed bytes xs = count_bytes (length xs) ++ flat_map bytes xs

-- a count of things of which there are most likely as many as of others: 0 for as many, or else 1
-- and the count
abbrev pub count_beside : ℕ → ℕ → List ℕ
count_beside others n =
    if n == others then count_bytes 0 else count_bytes 1 ++ count_bytes n

-- as a list, of which there are most likely as many
abbrev pub listed_beside : {X : Type 0} → ℕ → (X → List ℕ) → List X → List ℕ
listed_beside others bytes xs = count_beside others (length xs) ++ flat_map bytes xs

-- the ages of a task's jobs: 0 for none, and of one job alone its age, to which 2 is added; 1 before
-- the list of more
abbrev pub ages_bytes : List ℕ → List ℕ
ages_bytes [] = count_bytes 0
ages_bytes (age ∷ []) = count_bytes (age + 2)
ages_bytes (first ∷ second ∷ ages) = count_bytes 1 ++ listed number (first ∷ second ∷ ages)

abbrev pub hold_bytes : Hold → List ℕ
hold_bytes hold = optional number hold.holder ++ number hold.held

-- what is seldom anything but 0 comes last
abbrev pub blocked_part : Labels → List ℕ
blocked_part l = listed_beside (length l.ages) number l.blocked

abbrev pub pending_part : Labels → List ℕ
pending_part l = listed_beside (length l.debts) (optional number) l.pending

abbrev pub first_parts : Labels → List ℕ
first_parts l =
    listed number l.debts
    ++ (listed ages_bytes l.ages
    ++ count_bytes (length l.holds))

abbrev pub last_parts : Labels → List ℕ
last_parts l = pending_part l ++ blocked_part l

abbrev pub parts : Labels → List ℕ
parts l = first_parts l ++ (flat_map hold_bytes l.holds ++ last_parts l)

unfoldable pub packed : Labels → List ℕ
packed l = bare (parts l)

-- ---- as they are written

-- bytes stand behind old ones, maybe with zeros behind them
pub record IsAdded (old new bytes : List ℕ) : Type 0 where
  pub within : length old ≤ length new
  pub before : take (length old) new ≡ old
  pub behind : bare (drop (length old) new) ≡ bytes

-- Lists of ages in one list, each behind the one before, and where each ends.
use Rattle.std.specs.Prelude.{ℕ, ◌≤◌, List, [], ◌∷◌, length, slice_index, slice_range}

-- the lists from a place on
abbrev pub lists_from : List ℕ → ℕ → List ℕ → List (List ℕ)
lists_from ages begin [] = []
lists_from ages begin (end ∷ ends) = slice_range ages begin end ∷ lists_from ages end ends

abbrev pub lists_of : List ℕ → List ℕ → List (List ℕ)
lists_of ages ends = lists_from ages 0 ends

-- each ends behind where it begins, within so many ages
abbrev pub AreWithin : ℕ → ℕ → List ℕ → Type 0
AreWithin count begin [] = Unit {0}
AreWithin count begin (end ∷ ends) = (begin ≤ end) × (end ≤ count) × AreWithin count end ends

abbrev pub AreLists : List ℕ → List ℕ → Type 0
AreLists ages ends = AreWithin (length ages) 0 ends

-- where a list begins: where the one before ends
abbrev pub begin_of : List ℕ → ℕ → ℕ
begin_of ends k = slice_index (0 ∷ ends) k

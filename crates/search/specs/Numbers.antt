-- Numbers that are to be visited.
use Rattle.std.specs.Prelude.{ℕ, ◌≡◌, Bool, true, false, if◌then◌else◌, List, [], ◌∷◌, ◌++◌, nat_eq, nat_lt, slice_index_or}
use Rattle.std.specs.List.{list_any, list_all, IsDistinct}

abbrev pub is_in : ℕ → List ℕ → Bool
is_in number numbers = list_any (nat_eq number) numbers

-- a number last, unless it is there
abbrev pub put_in : ℕ → List ℕ → List ℕ
put_in number numbers = if is_in number numbers then numbers else numbers ++ number ∷ []

abbrev pub AreBelow : ℕ → List ℕ → Type 0
AreBelow count numbers = list_all (λ n. nat_lt n count) numbers ≡ true

-- each number stands once, and just those that do are marked
pub record AreMarked (numbers : List ℕ) (marks : List Bool) : Type 0 where
  pub once : IsDistinct nat_eq numbers
  pub marked : (number : ℕ) → slice_index_or marks number false ≡ is_in number numbers

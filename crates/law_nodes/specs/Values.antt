-- The modelled processor: what is known of values. None is a value that isn't known.
use Rattle.std.specs.Prelude.{ℕ, Bool, true, false, ◌&&◌, ◌==◌, List, [], ◌∷◌, Option, Some, None, slice_index_or}

-- whether it may be that value
abbrev pub may_be : Option ℕ → ℕ → Bool
may_be None v = true
may_be (Some u) v = u == v

-- .. of registers, one by one
abbrev pub may_have : List (Option ℕ) → List ℕ → Bool
may_have [] [] = true
may_have (o ∷ registers) (v ∷ values) = may_be o v && may_have registers values
may_have _ _ = false

-- whether the first is the second, or isn't known
abbrev pub knows_no_more : Option ℕ → Option ℕ → Bool
knows_no_more None p = true
knows_no_more (Some u) (Some v) = u == v
knows_no_more (Some u) None = false

-- .. of registers, one by one
abbrev pub know_no_more : List (Option ℕ) → List (Option ℕ) → Bool
know_no_more [] [] = true
know_no_more (o ∷ few) (p ∷ more) = knows_no_more o p && know_no_more few more
know_no_more _ _ = false

-- the value of a register
abbrev pub known : List (Option ℕ) → ℕ → Option ℕ
known registers r = slice_index_or registers r None

-- what a function of two values comes to
abbrev pub of_known : {X : Type 0} → (ℕ → ℕ → X) → Option ℕ → Option ℕ → Option X
of_known f (Some u) (Some v) = Some (f u v)
of_known f _ _ = None

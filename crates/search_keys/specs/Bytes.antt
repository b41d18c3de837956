-- The bytes of numbers, flags and lists, of which none begins another.
use Rattle.std.specs.Prelude.{ℕ, zero, suc, ◌+◌, ◌/◌, ◌%◌, Bool, nat_lt, if◌then◌else◌, List, [], ◌∷◌, ◌++◌, Option, Some, None}

-- the parts of the numbers below n, one after another
unfoldable pub each : ℕ → (ℕ → List ℕ) → List ℕ
each zero part = []
each (suc n) part = each n part ++ part n

-- a number in base 128, lowest digit first, a byte a digit: one from 128 on says that another one
-- follows. There are k + 1 at most
unfoldable pub digits : ℕ → ℕ → List ℕ
digits zero n = n ∷ []
digits (suc k) n =
    if nat_lt n 128 then n ∷ [] else (128 + n % 128) ∷ digits k (n / 128)

-- of a number of 32 bits that is all of it; below 128 it is one byte
unfoldable pub number : ℕ → List ℕ
number n = digits 4 n

abbrev pub flag : Bool → List ℕ
flag b = (if b then 1 else 0) ∷ []

-- 0 for nothing; 1, and the bytes of what there is
abbrev pub optional : {X : Type 0} → (X → List ℕ) → Option X → List ℕ
optional bytes None = 0 ∷ []
optional bytes (Some x) = 1 ∷ bytes x

-- nothing for what isn't needed
abbrev pub needed : Bool → ℕ → List ℕ
needed need n = if need then number n else []

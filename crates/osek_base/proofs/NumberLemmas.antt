-- Reading digits one after the other.
use Rattle.std.proofs.Common.{◌≡◌, ℕ, ◌+◌, ◌*◌, ◌≤◌, ◌<◌, ◌^◌, List, [], ◌∷◌, length, drop, get_or, subst, arith}
use Rattle.std.proofs.Math.Nat.{mul-le-mul_left}
use Rattle.std.proofs.lemmas.List.{drop_more}
use Rattle.std.specs.List.{AllByRecursion}
use Rattle.osek_base.specs.Words.{number_from, digit_of}

-- all of them are digits
abbrev pub Each : ℕ → List ℕ → Type 0
Each radix bytes = AllByRecursion (λ b. digit_of b < radix) bytes

-- behind the digits that spell number, rest is to be read
pub record GoesOn (radix : ℕ) (digits : List ℕ) (number : ℕ) (rest : List ℕ) : Type 0 where
  pub value : number_from radix number rest ≡ number_from radix 0 digits
  pub all : Each radix rest → Each radix digits
  pub each : Each radix digits → Each radix rest

-- more digits make a number no smaller
pub grows : (radix n : ℕ) (bytes : List ℕ) → 0 < radix → n ≤ number_from radix n bytes
grows radix n [] h = omega arith
grows radix n (b ∷ bytes) h =
    let more : n ≤ n * radix + digit_of b = omega (arith, mul-le-mul_left n h) in
    omega (arith, grows radix (n * radix + digit_of b) bytes h)

-- too large behind one more digit is too large
pub too_large : (radix : ℕ) (digits : List ℕ) (number b : ℕ) (rest : List ℕ) → 0 < radix → 2 ^ 32 ≤ number * radix + digit_of b → GoesOn radix digits number (b ∷ rest) → 2 ^ 32 ≤ number_from radix 0 digits
too_large radix digits number b rest positive large so_far =
    let more = grows radix (number * radix + digit_of b) rest positive in
    let e = so_far.value in
    omega arith

-- ---- at a place of the digits

one_more : (radix : ℕ) (digits : List ℕ) (number i : ℕ) → i < length digits → GoesOn radix digits number (drop i digits) → GoesOn radix digits number (get_or digits i 0 ∷ drop (i + 1) digits)
one_more radix digits number i inside h = subst (GoesOn radix digits number) (drop_more digits i 0 inside) h

pub too_large_at : (radix : ℕ) (digits : List ℕ) (number i : ℕ) → 0 < radix → i < length digits → 2 ^ 32 ≤ number * radix + digit_of (get_or digits i 0) → GoesOn radix digits number (drop i digits) → 2 ^ 32 ≤ number_from radix 0 digits
too_large_at radix digits number i positive inside large h = too_large radix digits number (get_or digits i 0) (drop (i + 1) digits) positive large (one_more radix digits number i inside h)

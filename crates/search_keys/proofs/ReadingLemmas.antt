-- Numbers that were written are read.
use Rattle.std.proofs.Common.{ℕ, zero, suc, ◌≡◌, ◌<◌, ◌+◌, ◌*◌, ◌-◌, ◌/◌, ◌%◌, Bool, true, false, cond, List, [], ◌∷◌, ◌++◌, refl, sym, ◌∙◌, ap, arith}
use Rattle.std.specs.Prelude.{Some, None, length, nat_lt}
use Rattle.std.proofs.lemmas.Bool.{le-ltb, lt-ltb}
use Rattle.search_keys.specs.Bytes.{digits, number, optional}
use Rattle.search_keys.specs.Counts.{count_bytes}
use Rattle.search_keys.proofs.DigitLemmas.{byte_low, higher_low, last_low}
use Rattle.search_keys.specs.Taken.{IsReadBack, NumbersAreReadBack, taken_count, taken_digits, taken_number, taken_optional, with_digit}

one_number : (n : ℕ) → (128 + n % 128) - 128 + 128 * (n / 128) ≡ n
one_number n = omega arith

digits_read : (k : ℕ) → IsReadBack (digits k) (taken_digits k)
unfolding digits taken_digits
digits_read zero n rest = refl
digits_read (suc k) n rest = go (digits_read k (n / 128) rest) (nat_lt n 128) refl
  where
    go : taken_digits k (digits k (n / 128) ++ rest) ≡ (n / 128, rest) → (b : Bool)
        → nat_lt n 128 ≡ b
        → taken_digits (suc k)
        (cond b (n ∷ []) ((128 + n % 128) ∷ digits k (n / 128)) ++ rest) ≡ (n, rest)
    go higher true is =
        ap (λ b. cond b (n, rest) (with_digit (n - 128) (taken_digits k rest))) is
    go higher false is =
        ap (λ b. cond b (128 + n % 128, digits k (n / 128) ++ rest)
        (with_digit ((128 + n % 128) - 128) (taken_digits k (digits k (n / 128) ++ rest))))
        (le-ltb (128 + n % 128) 128 (omega arith))
        ∙ ap (with_digit ((128 + n % 128) - 128)) higher
        ∙ ap (λ m. (m, rest)) (one_number n)

pub number_read : IsReadBack number taken_number
unfolding number taken_number
number_read n rest = digits_read 4 n rest

pub count_read : IsReadBack count_bytes taken_count
unfolding count_bytes taken_count
count_read n rest = digits_read 8 n rest

pub optional_read : IsReadBack (optional number) taken_optional
unfolding taken_optional
optional_read None rest = refl
optional_read (Some n) rest =
    ap (λ (r : ℕ × List ℕ). (Some r.0, r.1)) (number_read n rest)

-- ---- a byte at a time

pub none_taken : (k : ℕ) → taken_digits k [] ≡ (0, [])
unfolding taken_digits
none_taken zero = refl
none_taken (suc k) = refl

-- the same by its length
pub none_here : (k : ℕ) (bytes : List ℕ) → length bytes ≡ 0 → taken_digits k bytes ≡ (0, bytes)
none_here k [] none = none_taken k
none_here k (byte ∷ bytes) none = absurd (omega (arith, none))

pub last_taken : (k byte : ℕ) (rest : List ℕ) → k ≡ 0 → taken_digits k (byte ∷ rest) ≡ (byte, rest)
unfolding taken_digits
last_taken zero byte rest none = refl
last_taken (suc k) byte rest none = absurd (omega (arith, none))

pub only_taken : (k byte : ℕ) (rest : List ℕ) → byte < 128
    → taken_digits k (byte ∷ rest) ≡ (byte, rest)
unfolding taken_digits
only_taken zero byte rest low = refl
only_taken (suc k) byte rest low =
    ap (λ b. cond b (byte, rest) (with_digit (byte - 128) (taken_digits k rest)))
    (lt-ltb byte 128 low)

pub more_taken : (k byte : ℕ) (rest : List ℕ) → (k ≡ 0 → ⊥) → (byte < 128 → ⊥)
    → taken_digits k (byte ∷ rest) ≡ with_digit (byte - 128) (taken_digits (k - 1) rest)
unfolding taken_digits
more_taken zero byte rest some high = absurd (some refl)
more_taken (suc k) byte rest some high =
    ap (λ b. cond b (byte, rest) (with_digit (byte - 128) (taken_digits k rest)))
    (le-ltb byte 128 (omega (arith, high)))
    ∙ ap (λ j. with_digit (byte - 128) (taken_digits j rest)) (sym (one_less k))
  where
    one_less : (j : ℕ) → suc j - 1 ≡ j
    one_less j = omega arith

pub ruleset read_laws = (
  none_taken,
  last_taken,
  only_taken,
  more_taken,
  byte_low,
  last_low,
  higher_low,
)

pub short_number : (byte : ℕ) (rest : List ℕ) → byte < 128
    → taken_number (byte ∷ rest) ≡ (byte, rest)
unfolding taken_number
short_number byte rest low = only_taken 4 byte rest low

pub short_count : (byte : ℕ) (rest : List ℕ) → byte < 128 → taken_count (byte ∷ rest) ≡ (byte, rest)
unfolding taken_count
short_count byte rest low = only_taken 8 byte rest low

pub ruleset short_laws = (
  short_number,
  short_count,
)

pub numbers_read : NumbersAreReadBack
numbers_read = record { plain = number_read; count = count_read; maybe = optional_read }

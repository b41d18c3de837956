-- OIL: grammar, names and numbers. Words and numbers of a text, for all that is read.
use Rattle.std.specs.Prelude.{◌≡◌, ◌≢◌, ℕ, ◌+◌, ◌-◌, ◌*◌, ◌<◌, ◌≤◌, ◌^◌, ◌⊎◌, ◌||◌, ◌&&◌, ◌==◌, Bool, IsTrue, List, [], ◌∷◌, length, take, drop, slice_index, if◌then◌else◌, nat_le}
use Rattle.std.specs.List.{AllByRecursion}
use Rattle.osek_base.specs.declared.limits.TheConstants.{MAX_NAME}

-- ---- bytes

abbrev pub is_between : ℕ → ℕ → ℕ → Bool
is_between low high b = nat_le low b && nat_le b high

abbrev pub is_digit : ℕ → Bool
is_digit b = is_between 48 57 b

-- ASCII's letters, and _
abbrev pub is_letter : ℕ → Bool
is_letter b = is_between 65 90 b || is_between 97 122 b || (b == 95)

-- the bytes of words and numbers
abbrev pub is_word_byte : ℕ → Bool
is_word_byte b = is_letter b || is_digit b

-- the first n bytes are the longest run of letters, digits and _
pub record IsRun (bytes : List ℕ) (n : ℕ) : Type 0 where
  pub within : n ≤ length bytes
  pub each : (i : ℕ) → i < n → IsTrue (is_word_byte (slice_index bytes i))
  pub longest : n < length bytes → ¬ IsTrue (is_word_byte (slice_index bytes n))

-- ---- numbers

-- the value of a digit of either case; of another byte, 16
abbrev pub digit_of : ℕ → ℕ
digit_of b =
    if is_between 48 57 b then b - 48
    else (if is_between 65 70 b then b - 55
    else (if is_between 97 102 b then b - 87
    else 16))

-- digits, one at least
pub record AreDigits (radix : ℕ) (bytes : List ℕ) : Type 0 where
  pub some : 0 < length bytes
  pub each : AllByRecursion (λ b. digit_of b < radix) bytes

-- the number that digits spell, behind those that spell n
abbrev pub number_from : ℕ → ℕ → List ℕ → ℕ
number_from radix n [] = n
number_from radix n (b ∷ bytes) = number_from radix (n * radix + digit_of b) bytes

-- digits without a leading zero, but for 0 itself
abbrev pub IsDecimal : List ℕ → ℕ → Type 0
IsDecimal word n = AreDigits 10 word × (slice_index word 0 ≡ 48 → length word ≡ 1) × (n ≡ number_from 10 0 word)

-- 0x or 0X, and at least one digit
abbrev pub IsHexadecimal : List ℕ → ℕ → Type 0
IsHexadecimal word n = (slice_index word 0 ≡ 48) × ((slice_index word 1 ≡ 120) ⊎ (slice_index word 1 ≡ 88))
    × AreDigits 16 (drop 2 word) × (n ≡ number_from 16 0 (drop 2 word))

-- a NUMBER and its value, of 32 bits
abbrev pub IsNumeral : List ℕ → ℕ → Type 0
IsNumeral word n = (n < 2 ^ 32) × (IsDecimal word n ⊎ IsHexadecimal word n)

-- ---- at the front of a text

-- a word that isn't too long
pub record IsWordOf (bytes word : List ℕ) : Type 0 where
  pub run : IsRun bytes (length word)
  pub short : length word ≤ MAX_NAME
  pub is : word ≡ take (length word) bytes

-- a NUMBER of so many bytes, and its value
pub record IsNumberOf (bytes : List ℕ) (n v : ℕ) : Type 0 where
  pub run : IsRun bytes n
  pub numeral : IsNumeral (take n bytes) v

-- the first n bytes are those before the next LF, or all
pub record IsLine (bytes : List ℕ) (n : ℕ) : Type 0 where
  pub within : n ≤ length bytes
  pub each : (i : ℕ) → i < n → slice_index bytes i ≢ 10
  pub longest : n < length bytes → slice_index bytes n ≡ 10

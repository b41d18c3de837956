-- How long numbers, masks and instructions are as texts.
use Rattle.std.proofs.Common.{ℕ, zero, suc, ◌≡◌, ◌+◌, ◌-◌, ◌/◌, ◌%◌, ◌^◌, ◌<◌, ◌≤◌, Bool, true, false, cond, ◌==◌, List, [], ◌∷◌, ◌++◌, length, replicate, refl, arith, length-append}
use Rattle.std.specs.Prelude.{codes, decimal}
use Rattle.std.specs.Fmt.{digits, digits_onto, digit_glyph}
use Rattle.std.proofs.Math.Nat.{pow-suc}
use Rattle.std.proofs.lemmas.Bool.{eqb-false}
use Rattle.std.proofs.lemmas.Fmt.{length-decimal-le}
use Rattle.std.proofs.lemmas.List.{length-replicate}
use Rattle.osek_base.specs.Text.{register_text, mask_text, listed, written}

-- ---- numbers

pub one_digit : (n : ℕ) → n < 10 → length (decimal n) ≤ 1
one_digit n low = length-decimal-le 1 n (omega arith) (omega (arith, low)) (omega (arith, low))

pub two_digits : (n : ℕ) → n < 100 → length (decimal n) ≤ 2
two_digits n low = length-decimal-le 2 n (omega arith) (omega (arith, low)) (omega (arith, low))

pub four_digits : (n : ℕ) → n ≤ 1024 → length (decimal n) ≤ 4
four_digits n low = length-decimal-le 4 n (omega arith) (omega (arith, low)) (omega (arith, low))

pub six_digits : (n : ℕ) → n < 1000000 → length (decimal n) ≤ 6
six_digits n low = length-decimal-le 6 n (omega arith) (omega (arith, low)) (omega (arith, low))

pub ten_digits : (n : ℕ) → n < 2 ^ 32 → length (decimal n) ≤ 10
ten_digits n low = length-decimal-le 10 n (omega arith) (omega (arith, low)) (omega (arith, low))

pub register_long : (r : ℕ) → r < 8 → length (register_text r) ≤ 2
register_long r low = let rest = one_digit r (omega (arith, low)) in omega (arith, rest)

-- ---- masks

not_last : (j m : ℕ) → m < 16 ^ suc j → (m / 16 == 0) ≡ false → 0 < j
not_last zero m small more = absurd (eqb-false (m / 16) 0 more (omega (arith, small)))
not_last (suc j) m small more = omega arith

fewer : (j m : ℕ) → m < 16 ^ suc j → m / 16 < 16 ^ j
fewer j m small = omega (arith, small, pow-suc 16 j)

digits_long : (room j m : ℕ) (acc : List ℕ) → 0 < j → m < 16 ^ j
    → length (digits_onto room 16 false m acc) ≤ j + length acc
digits_long zero j m acc some small = omega arith
digits_long (suc room) zero m acc some small = absurd (omega (arith, some))
digits_long (suc room) (suc j) m acc some small =
    go (m / 16 == 0) refl
    (λ more. digits_long room j (m / 16) (glyph ∷ acc) more (fewer j m small))
  where
    glyph : ℕ
    glyph = digit_glyph false (m % 16)

    go : (b : Bool) → (m / 16 == 0) ≡ b
        → (0 < j → length (digits_onto room 16 false (m / 16) (glyph ∷ acc)) ≤ j + length
        (glyph ∷ acc))
        → length (cond b (glyph ∷ acc) (digits_onto room 16 false (m / 16) (glyph ∷ acc))) ≤ suc j
        + length acc
    go true is rest = omega arith
    go false is rest = let long = rest (not_last j m small is) in omega (arith, long)

mask_digits : (m : ℕ) → m < 2 ^ 32 → length (digits 16 false m) ≤ 8
unfolding digits
mask_digits m small = digits_long 64 8 m [] (omega arith) (omega (arith, small))

pub mask_long : (m : ℕ) → m < 2 ^ 32 → length (mask_text m) ≤ 10
mask_long m small =
    let few = mask_digits m small in
    let zeros = length-replicate {A = ℕ} (8 - length (digits 16 false m)) 48 in
    let both = length-append (replicate (8 - length (digits 16 false m)) 48) (digits 16 false m) in
    omega (arith, few, zeros, both)

-- ---- texts behind one another

pub joined : (xs ys : List ℕ) (m n : ℕ) → length xs ≤ m → length ys ≤ n → length (xs ++ ys) ≤ m + n
joined xs ys m n few less = omega (arith, few, less, length-append xs ys)

-- operands of so many bytes at most
abbrev pub AreWithin : List (List ℕ) → List ℕ → Type 0
AreWithin [] [] = Unit {0}
AreWithin [] (n ∷ ns) = Unit {0}
AreWithin (x ∷ xs) [] = ⊥
AreWithin (x ∷ xs) (n ∷ ns) = (length x ≤ n) × AreWithin xs ns

-- each behind a comma and a space
abbrev pub room : List ℕ → ℕ
room [] = 0
room (n ∷ ns) = 2 + (n + room ns)

listed_long : (xs : List (List ℕ)) (ns : List ℕ) → AreWithin xs ns → length (listed xs) ≤ room ns
listed_long [] ns within = omega arith
listed_long (x ∷ xs) [] within = absurd within
listed_long (x ∷ xs) (n ∷ ns) within =
    joined (codes ", ") (x ++ listed xs) 2 (n + room ns) (omega arith)
    (joined x (listed xs) n (room ns) within.0 (listed_long xs ns within.1))

-- a mnemonic and its operands, of which the first stands behind a space
pub written_long : (word x : List ℕ) (xs : List (List ℕ)) (w n : ℕ) (ns : List ℕ) → length word ≤ w
    → length x ≤ n
    → AreWithin xs ns → length (written word (x ∷ xs)) ≤ w + 1 + n + room ns
written_long word x xs w n ns short first within =
    joined (word ++ codes " " ++ x) (listed xs) (w + 1 + n) (room ns)
    (joined (word ++ codes " ") x (w + 1) n
    (joined word (codes " ") w 1 short (omega arith)) first)
    (listed_long xs ns within)

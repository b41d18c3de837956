-- Names, numbers and signs are pieces of a text where no letter, digit or _ follows.
use Rattle.std.proofs.Common.{◌≡◌, ℕ, zero, suc, ◌<◌, ◌≤◌, ◌^◌, true, false, ◌&&◌, leb, List, [], ◌∷◌, ◌++◌, length, get_or, Some, arith, refl, sym, ap, ◌∙◌, subst, length-append}
use Rattle.std.specs.Prelude.{decimal}
use Rattle.std.specs.List.{list_all}
use Rattle.std.proofs.lemmas.Bool.{leb-true, lt-leb, ltb-true, ne_eqb, and_parts}
use Rattle.std.proofs.Math.Seq.{take-append_seam}
use Rattle.std.proofs.lemmas.List.{get_or-append-add}
use Rattle.osek_base.specs.Words.{is_letter, is_digit, is_word_byte, IsRun, IsNumeral}
use Rattle.oil_reader.specs.declared.tokens.Sign.{Sign}
use Rattle.oil_reader.specs.declared.tokens.Sign.TheVariants.{Open, Close, Equals, Semicolon}
use Rattle.oil_reader.specs.declared.tokens.Class.{Class}
use Rattle.oil_reader.specs.declared.tokens.Class.TheVariants as class
use Rattle.oil_reader.specs.Tokens.{Name, Number, Version, Mark, IsPieceOf, IsPiece, class_of}
use Rattle.oil_reader.specs.Grammar.{Value, Named, Numeric, value_word}
use Rattle.oil_reader.specs.Spelled.{is_spelled_value}
use Rattle.oil_reader.specs.Checked.{is_name, is_number}
use Rattle.oil_printer.proofs.Numbers.{decimal_spells, decimal_is}
use Rattle.oil_printer.proofs.Parts.{Part, Blank, Token, sign_byte, text_of, ArePieces}

-- the bytes don't go on with a letter, digit or _
abbrev pub Apart : List ℕ → Type 0
Apart rest = is_word_byte (get_or rest 0 0) ≡ false

word_byte_at : (word rest : List ℕ) → list_all is_word_byte word ≡ true → (i : ℕ) → i < length word → is_word_byte (get_or (word ++ rest) i 0) ≡ true
word_byte_at [] rest h i inside = absurd (omega arith)
word_byte_at (b ∷ word) rest h zero inside = (and_parts (is_word_byte b) (list_all is_word_byte word) h).0
word_byte_at (b ∷ word) rest h (suc i) inside = word_byte_at word rest (and_parts (is_word_byte b) (list_all is_word_byte word) h).1 i (omega arith)

-- a word before what doesn't go on with it is a run
pub run : (word rest : List ℕ) → list_all is_word_byte word ≡ true → Apart rest → IsRun (word ++ rest) (length word)
run word rest h apart = record {
  within = omega (arith, length-append word rest);
  each = word_byte_at word rest h;
  longest = λ more yes.
      let at_end : get_or (word ++ rest) (length word) 0 ≡ get_or rest 0 0 = ap (λ (i : ℕ). get_or (word ++ rest) i 0) (omega arith) ∙ get_or-append-add word rest 0 0 in
      let no : is_word_byte (get_or (word ++ rest) (length word) 0) ≡ false = ap is_word_byte at_end ∙ apart in
      absurd cc;
}

letter_class : (b : ℕ) → is_letter b ≡ true → class_of b ≡ class.Letter
letter_class b h = rw h refl

letter_word : (b : ℕ) → is_letter b ≡ true → is_word_byte b ≡ true
letter_word b h = rw h refl

not_letter : (b : ℕ) → is_digit b ≡ true → is_letter b ≡ false
not_letter b h =
    let t = and_parts (leb 48 b) (leb b 57) h in
    let low = leb-true 48 b t.0 in
    let high = leb-true b 57 t.1 in
    rw (lt-leb 65 b (omega (arith, high)), lt-leb 97 b (omega (arith, high)), ne_eqb b 95 (λ e. omega (arith, high, e))) refl

digit_class : (b : ℕ) → is_digit b ≡ true → class_of b ≡ class.Digit
digit_class b h = rw (not_letter b h, h) refl

name_of_class : (b : ℕ) (word rest : List ℕ) → class_of b ≡ class.Letter → list_all is_word_byte (b ∷ word) ≡ true → length word ≤ 31 → Apart rest
    → IsPiece ((b ∷ word) ++ rest) (length (b ∷ word)) (Some (Name (b ∷ word)))
name_of_class b word rest k all short apart = (
  omega arith,
  subst (λ (c : Class). IsPieceOf c ((b ∷ word) ++ rest) (length (b ∷ word)) (Some (Name (b ∷ word)))) (sym k)
      (run (b ∷ word) rest all apart, omega arith, ap (λ (s : List ℕ). Some (Name s)) (sym (take-append_seam (b ∷ word) rest))),
)

name_piece : (name rest : List ℕ) → is_name name ≡ true → Apart rest → IsPiece (name ++ rest) (length name) (Some (Name name))
name_piece [] rest h apart = absurd cc
name_piece (b ∷ word) rest h apart =
    let one = and_parts (is_letter b && list_all is_word_byte word) (leb (length word) 31) h in
    let two = and_parts (is_letter b) (list_all is_word_byte word) one.0 in
    name_of_class b word rest (letter_class b two.0) (rw (letter_word b two.0, two.1) refl) (leb-true (length word) 31 one.1) apart

digit_word : (b : ℕ) → is_digit b ≡ true → is_word_byte b ≡ true
digit_word b h = rw (not_letter b h, h) refl

digits_word : (ds : List ℕ) → list_all is_digit ds ≡ true → list_all is_word_byte ds ≡ true
digits_word [] h = refl
digits_word (b ∷ ds) h =
    let t = and_parts (is_digit b) (list_all is_digit ds) h in
    rw (digit_word b t.0, digits_word ds t.1) refl

first_class : (ds rest : List ℕ) → 0 < length ds → list_all is_digit ds ≡ true → class_of (get_or (ds ++ rest) 0 0) ≡ class.Digit
first_class [] rest some h = absurd (omega arith)
first_class (b ∷ ds) rest some h = digit_class b (and_parts (is_digit b) (list_all is_digit ds) h).0

number_piece : (n : ℕ) (rest : List ℕ) → is_number n ≡ true → Apart rest → IsPiece (decimal n ++ rest) (length (decimal n)) (Some (Number n))
number_piece n rest h apart =
    let small : n < 2 ^ 32 = ltb-true n (2 ^ 32) h in
    let s = decimal_spells n small in (
      omega (arith, s.some, length-append (decimal n) rest),
      subst (λ (c : Class). IsPieceOf c (decimal n ++ rest) (length (decimal n)) (Some (Number n))) (sym (first_class (decimal n) rest s.some s.digits))
          (run (decimal n) rest (digits_word (decimal n) s.digits) apart, n, subst (λ (word : List ℕ). IsNumeral word n) (sym (take-append_seam (decimal n) rest)) (decimal_is n small), refl),
    )

-- ---- one more piece in front

pub nothing_left : ArePieces []
unfolding ArePieces
nothing_left = tt

pub space : (xs : List Part) → ArePieces xs → ArePieces (Blank 32 ∷ xs)
unfolding ArePieces
space xs h = ((omega arith, (refl, refl)), h)

pub line_end : (xs : List Part) → ArePieces xs → ArePieces (Blank 10 ∷ xs)
unfolding ArePieces
line_end xs h = ((omega arith, (refl, refl)), h)

sign_piece : (s : Sign) (rest : List ℕ) → IsPiece (sign_byte s ∷ rest) 1 (Some (Mark s))
sign_piece Open rest = (omega arith, (refl, refl))
sign_piece Close rest = (omega arith, (refl, refl))
sign_piece Equals rest = (omega arith, (refl, refl))
sign_piece Semicolon rest = (omega arith, (refl, refl))

pub sign : (s : Sign) (xs : List Part) → ArePieces xs → ArePieces (Token (Mark s) ∷ xs)
unfolding ArePieces
sign s xs h = (sign_piece s (text_of xs), h)

pub version : (xs : List Part) → ArePieces xs → ArePieces (Token Version ∷ xs)
unfolding ArePieces
version xs h = ((omega arith, (refl, refl, refl)), h)

pub name : (word : List ℕ) (xs : List Part) → is_name word ≡ true → Apart (text_of xs) → ArePieces xs → ArePieces (Token (Name word) ∷ xs)
unfolding ArePieces
name word xs h apart more = (name_piece word (text_of xs) h apart, more)

pub value : (v : Value) (xs : List Part) → is_spelled_value v ≡ true → Apart (text_of xs) → ArePieces xs → ArePieces (Token (value_word v) ∷ xs)
unfolding ArePieces
value (Named s) xs h apart more = (name_piece s (text_of xs) h apart, more)
value (Numeric n) xs h apart more = (number_piece n (text_of xs) h apart, more)

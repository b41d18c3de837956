-- A text is read as a place where it is a number of 16 bits.
use Rattle.std.proofs.Common.{◌≡◌, ◌<◌, ◌^◌, ◌∙◌, ℕ, Bool, true, false, List, length, refl, ap, sym, cond, ltb-true, lt-ltb}
use Rattle.std.specs.Prelude.{◌&&◌, Some, None, Result, Ok, Err, nat_lt}
use Rattle.std.specs.Cmp.{first_so, second_so}
use Rattle.std.specs.Cmp.Derive.{both_true}
use Rattle.std.specs.Result.{result_ok}
use Rattle.std.specs.Str.{all_ascii_digits}
use Rattle.std.specs.Str.Parse.{IsNumeral, ParsesUnsigned, digits_value, without_leading_plus}
use Rattle.std.proofs.lemmas.Str.Parse.{IsNumeralModel, numerals_by_value, tells_all_ascii_digits}
use Rattle.view_figure_texts.specs.Tables.{is_number, place_of}

numerals : IsNumeralModel (λ ds. all_ascii_digits ds ≡ true) (digits_value 10)
numerals = numerals_by_value (λ ds. all_ascii_digits ds ≡ true) tells_all_ascii_digits

-- what the test of a number tells, and what it takes
test_from : (ds : List ℕ) → IsNumeral 10 ds × (digits_value 10 ds < 2 ^ 16) → is_number ds ≡ true
test_from ds h =
    both_true (lt-ltb 0 (length ds) h.0.0)
    (both_true (numerals.from ds h.0.1) (lt-ltb (digits_value 10 ds) (2 ^ 16) h.1))

numeral_from : (ds : List ℕ) → is_number ds ≡ true → IsNumeral 10 ds × (digits_value 10 ds < 2 ^ 16)
numeral_from ds h =
    let rest = second_so (nat_lt 0 (length ds)) (all_ascii_digits ds && nat_lt (digits_value 10 ds) (2 ^ 16)) h in
    let digits = first_so (all_ascii_digits ds) (nat_lt (digits_value 10 ds) (2 ^ 16)) rest in
    let low = second_so (all_ascii_digits ds) (nat_lt (digits_value 10 ds) (2 ^ 16)) rest in
    ((ltb-true 0 (length ds) (first_so (nat_lt 0 (length ds)) _ h), numerals.to ds digits), ltb-true (digits_value 10 ds) (2 ^ 16) low)

none_where : (b : Bool) (n : ℕ) → (b ≡ true → ⊥) → cond b (Some n) None ≡ None
none_where true n h = absurd (h refl)
none_where false n h = refl

pub place_read : {E : Type 0} (word : List ℕ) (r : Result ℕ E) → ParsesUnsigned 16 10 word r → result_ok r ≡ place_of word
place_read word (Ok n) h =
    let ds = without_leading_plus word in
    ap (λ (m : ℕ). Some m) h.1 ∙ sym (ap (λ b. cond b (Some (digits_value 10 ds)) None) (test_from ds h.0))
place_read word (Err e) h =
    let ds = without_leading_plus word in
    sym (none_where (is_number ds) (digits_value 10 ds) (λ yes. h (numeral_from ds yes)))

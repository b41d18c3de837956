-- A number in decimal is a numeral of that number.
use Rattle.std.proofs.Common.{◌≡◌, ℕ, zero, suc, ◌+◌, ◌*◌, ◌/◌, ◌%◌, ◌^◌, ◌<◌, ◌≤◌, Bool, true, false, ◌&&◌, List, [], ◌∷◌, ◌++◌, length, get_or, arith, refl, sym, ap, length-append, inl}
use Rattle.std.specs.Prelude.{decimal}
use Rattle.std.specs.List.{list_all, AllByRecursion}
use Rattle.std.proofs.lemmas.Bool.{le-leb}
use Rattle.std.proofs.lemmas.Fmt.{decimal_by_steps, first_decimal, decimal_digit}
use Rattle.osek_base.specs.Words.{is_digit, digit_of, number_from, IsNumeral}

-- a byte from 48 on is the digit
pub digit_is : (k : ℕ) → k < 10 → is_digit (48 + k) ≡ true
digit_is k small = rw (le-leb 48 (48 + k) (omega arith), le-leb (48 + k) 57 (omega arith)) refl

digit_value : (k : ℕ) → k < 10 → digit_of (48 + k) ≡ k
digit_value k small = rw (le-leb 48 (48 + k) (omega arith), le-leb (48 + k) 57 (omega arith)) (omega arith)

number_push : (n d : ℕ) (ds : List ℕ) → number_from 10 n (ds ++ d ∷ []) ≡ number_from 10 n ds * 10 + digit_of d
number_push n d [] = refl
number_push n d (c ∷ ds) = number_push (n * 10 + digit_of c) d ds

-- digits that spell a number
pub record Spells (n : ℕ) (ds : List ℕ) : Type 0 where
  pub some : 0 < length ds
  pub digits : list_all is_digit ds ≡ true
  pub each : AllByRecursion (λ b. digit_of b < 10) ds
  pub value : number_from 10 0 ds ≡ n

all_first : (b : Bool) (ds : List ℕ) (d : ℕ) → (b && list_all is_digit ds) ≡ true → is_digit d ≡ true → (list_all is_digit ds ≡ true → list_all is_digit (ds ++ d ∷ []) ≡ true) → (b && list_all is_digit (ds ++ d ∷ [])) ≡ true
all_first true ds d h e next = next h
all_first false ds d h e next = absurd cc

all_push : (ds : List ℕ) (d : ℕ) → list_all is_digit ds ≡ true → is_digit d ≡ true → list_all is_digit (ds ++ d ∷ []) ≡ true
all_push [] d h e = rw e refl
all_push (c ∷ ds) d h e = all_first (is_digit c) ds d h e (λ k. all_push ds d k e)

each_push : (ds : List ℕ) (d : ℕ) → AllByRecursion (λ b. digit_of b < 10) ds → digit_of d < 10 → AllByRecursion (λ b. digit_of b < 10) (ds ++ d ∷ [])
each_push [] d h e = (e, tt)
each_push (c ∷ ds) d h e = (h.0, each_push ds d h.1 e)

one_digit : (n : ℕ) → n < 10 → Spells n ((48 + n) ∷ [])
one_digit n small = record {
  some = omega arith;
  digits = rw (digit_is n small) refl;
  each = (omega (arith, digit_value n small), tt);
  value = omega (arith, digit_value n small);
}

more_digits : (n : ℕ) (ds : List ℕ) → 10 ≤ n → Spells (n / 10) ds → Spells n (ds ++ ((48 + n % 10) ∷ []))
more_digits n ds large h =
    let k = n % 10 in
    let small : n % 10 < 10 = omega arith in
    record {
      some = omega (arith, length-append ds ((48 + n % 10) ∷ []));
      digits = all_push ds (48 + n % 10) h.digits (digit_is (n % 10) small);
      each = each_push ds (48 + n % 10) h.each (omega (arith, digit_value (n % 10) small));
      value = omega (arith, number_push 0 (48 + n % 10) ds, digit_value (n % 10) small, h.value);
    }

pub decimal_spells : (n : ℕ) → n < 2 ^ 32 → Spells n (decimal n)
decimal_spells n small = decimal_by_steps Spells one_digit more_digits n (omega arith)

-- no leading zero but that of 0
leading : (n : ℕ) → n < 2 ^ 32 → get_or (decimal n) 0 0 ≡ 48 → length (decimal n) ≡ 1
leading zero small h = ap length (decimal_digit 0 (omega arith))
leading (suc n) small h = let first = first_decimal (suc n) (omega arith) (omega arith) in absurd (omega arith)

pub decimal_is : (n : ℕ) → n < 2 ^ 32 → IsNumeral (decimal n) n
decimal_is n small =
    let s = decimal_spells n small in
    (small, inl (record { some = s.some; each = s.each }, leading n small, sym s.value))

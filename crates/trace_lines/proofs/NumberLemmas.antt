-- Numbers whose last digit stands apart.
use Rattle.std.proofs.Common.{◌≡◌, ◌-◌, set, length, length-append, refl, ℕ, zero, suc, ◌+◌, ◌*◌, ◌/◌, ◌%◌, ◌^◌, ◌<◌, ◌≤◌, List, [], ◌∷◌, ◌++◌, append_assoc, ne_eqb, sym, ◌∙◌, ap, ap₂, arith}
use Rattle.std.specs.Prelude.{decimal}
use Rattle.std.proofs.Math.Nat.{suc-ne-zero}
use Rattle.std.proofs.lemmas.Fmt.{decimal_digit, decimal_step}
use Rattle.trace_lines.specs.Lines.{front_digits}

-- the digits of a number are those before the last, and the last
digits_split : (tens last : ℕ) → last < 10 → tens * 10 + last < 2 ^ 64
    → decimal (tens * 10 + last) ≡ front_digits tens ++ (48 + last) ∷ []
digits_split zero last h k =
    let alone : zero * 10 + last ≡ last = omega arith in
    ap decimal alone ∙ decimal_digit last h
digits_split (suc n) last h k =
    let long : 10 ≤ suc n * 10 + last = omega arith in
    let before : (suc n * 10 + last) / 10 ≡ suc n = omega (arith, h) in
    let end : (suc n * 10 + last) % 10 ≡ last = omega (arith, h) in
    rw (ne_eqb (suc n) 0 (suc-ne-zero n))
    (decimal_step (suc n * 10 + last) long k ∙ ap₂ (λ a b. decimal a ++ (48 + b) ∷ []) before end)

-- a text to which the digits and a space were appended
pub tick_pushed : (old whole text : List ℕ) (tens last : ℕ) → last < 10 → tens * 10 + last ≤ 1000000
    → text ≡ front_digits tens ++ (48 + last) ∷ 32 ∷ [] → whole ≡ old ++ text
    → whole ≡ (old ++ decimal (tens * 10 + last)) ++ 32 ∷ []
tick_pushed old whole text tens last h few e k =
    let small : tens * 10 + last < 2 ^ 64 = omega (arith, few) in
    k
    ∙ ap (λ t. old ++ t) (e ∙ sym (append_assoc (front_digits tens) ((48 + last) ∷ []) (32 ∷ [])) ∙ ap (λ t. t ++ 32 ∷ []) (sym (digits_split tens last h small)))
    ∙ sym (append_assoc old (decimal (tens * 10 + last)) (32 ∷ []))

-- two digits of a text are written
digits_written : (front : List ℕ) (a b c d : ℕ) → set (set (front ++ a ∷ b ∷ 32 ∷ []) (length front) c) (suc (length front)) d ≡ front ++ c ∷ d ∷ 32 ∷ []
digits_written [] a b c d = refl
digits_written (x ∷ front) a b c d = ap (λ t. x ∷ t) (digits_written front a b c d)

-- a number whose successor has the same front digits
pub tens_written : (old : List ℕ) (t : ℕ) → 0 < t → t < 1000000 → 0 < (t + 1) % 10 → old ≡ front_digits t ++ 57 ∷ 32 ∷ []
    → set (set old (length old - 3) (48 + (t + 1) % 10)) (length old - 2) 48 ≡ decimal (t + 1) ++ 48 ∷ 32 ∷ []
tens_written old t some few more is =
    let front : List ℕ = front_digits (t / 10) in
    let split : decimal t ≡ front ++ (48 + t % 10) ∷ [] =
    ap decimal (omega arith) ∙ digits_split (t / 10) (t % 10) (omega arith) (omega (arith, few)) in
    let next : decimal (t + 1) ≡ front ++ (48 + (t + 1) % 10) ∷ [] =
    ap decimal (omega (arith, more)) ∙ digits_split (t / 10) ((t + 1) % 10) (omega arith) (omega (arith, few, more)) in
    let digits : front_digits t ≡ decimal t = rw (ne_eqb t 0 (λ (e : t ≡ 0). omega arith)) refl in
    let whole : old ≡ front ++ (48 + t % 10) ∷ 57 ∷ 32 ∷ [] =
    is ∙ ap (λ d. d ++ 57 ∷ 32 ∷ []) (digits ∙ split) ∙ append_assoc front ((48 + t % 10) ∷ []) (57 ∷ 32 ∷ []) in
    let long : length old ≡ length front + 3 = ap (λ (l : List ℕ). length l) whole ∙ length-append front ((48 + t % 10) ∷ 57 ∷ 32 ∷ []) in
    let first : length old - 3 ≡ length front = omega (arith, long) in
    let second : length old - 2 ≡ suc (length front) = omega (arith, long) in
    rw (first, second, whole)
    (digits_written front (48 + t % 10) 57 (48 + (t + 1) % 10) 48
    ∙ sym (append_assoc front ((48 + (t + 1) % 10) ∷ []) (48 ∷ 32 ∷ [])) ∙ ap (λ d. d ++ 48 ∷ 32 ∷ []) (sym next))

-- the text of a tick is at least three bytes long where its number has two digits
pub tens_long : (old : List ℕ) (t : ℕ) → 0 < t → t < 1000000 → old ≡ front_digits t ++ 57 ∷ 32 ∷ [] → 3 ≤ length old
tens_long old t some few is =
    let front : List ℕ = front_digits (t / 10) in
    let split : decimal t ≡ front ++ (48 + t % 10) ∷ [] =
    ap decimal (omega arith) ∙ digits_split (t / 10) (t % 10) (omega arith) (omega (arith, few)) in
    let digits : front_digits t ≡ decimal t = rw (ne_eqb t 0 (λ (e : t ≡ 0). omega arith)) refl in
    let whole : old ≡ front ++ (48 + t % 10) ∷ 57 ∷ 32 ∷ [] =
    is ∙ ap (λ d. d ++ 57 ∷ 32 ∷ []) (digits ∙ split) ∙ append_assoc front ((48 + t % 10) ∷ []) (57 ∷ 32 ∷ []) in
    let long : length old ≡ length front + 3 = ap (λ (l : List ℕ). length l) whole ∙ length-append front ((48 + t % 10) ∷ 57 ∷ 32 ∷ []) in
    omega (arith, long)

-- ---- numbers of two, three and four digits

-- the digits of a number are those of its tens, and the last
last_digit : (n : ℕ) → 10 ≤ n → n < 10000 → decimal n ≡ decimal (n / 10) ++ (48 + n % 10) ∷ []
last_digit n more few = decimal_step n more (omega (arith, few))

pub two_digits : (n : ℕ) → 10 ≤ n → n < 100 → decimal n ≡ (48 + n / 10) ∷ (48 + n % 10) ∷ []
two_digits n more few =
    last_digit n more (omega (arith, few)) ∙ ap (λ d. d ++ (48 + n % 10) ∷ []) (decimal_digit (n / 10) (omega (arith, few)))

pub three_digits : (n : ℕ) → 100 ≤ n → n < 1000 → decimal n ≡ (48 + n / 10 / 10) ∷ (48 + n / 10 % 10) ∷ (48 + n % 10) ∷ []
three_digits n more few =
    last_digit n (omega (arith, more)) (omega (arith, few))
    ∙ ap (λ d. d ++ (48 + n % 10) ∷ []) (two_digits (n / 10) (omega (arith, more)) (omega (arith, few)))

pub four_digits : (n : ℕ) → 1000 ≤ n → n < 10000
    → decimal n ≡ (48 + n / 10 / 10 / 10) ∷ (48 + n / 10 / 10 % 10) ∷ (48 + n / 10 % 10) ∷ (48 + n % 10) ∷ []
four_digits n more few =
    last_digit n (omega (arith, more)) few
    ∙ ap (λ d. d ++ (48 + n % 10) ∷ []) (three_digits (n / 10) (omega (arith, more)) (omega (arith, few)))
